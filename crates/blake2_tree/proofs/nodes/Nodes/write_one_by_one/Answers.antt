use Rattle.std.proofs.Common.{◌≡◌, ℕ, ◌+◌, ◌*◌, ◌<◌, ◌≤◌, ◌++◌, List, length, take, drop, Bool}
use Rattle.std.proofs.Common.{false, sym, ap, ◌∙◌, rules, arith}
use Rattle.blake2_tree.specs.LeafRanges.{range_digests}
use Rattle.blake2_tree.specs.NodeViews.{shared_parameters, node_digest}
use Rattle.blake2_tree.proofs.MessageLeaves.{leaf_count-at_most_one_leaf, range_digests-single_leaf}
use Rattle.blake2_tree.proofs.MessageLeaves.{range_digests-first_leaf_and_rest}
use Rattle.blake2_tree.proofs.RangeWrites.{FirstDigestsAreWritten-more_leaves}
use Rattle.blake2_tree.proofs.RangeWrites.{overwritten_output-is_all}
use Rattle.blake2_tree.proofs.nodes.Nodes.write_one_by_one.Goals as goal

pub loop-rest-preserved : goal.loop-rest-preserved
loop-rest-preserved c =
    let nodes = c.args.self.now in
    let s = shared_parameters nodes in
    let l : ℕ = nodes.leaf_length in
    let place : ℕ = c.args.first + c.loop-rest.done in
    let rest : List ℕ = c.loop-rest.rest.now in
    let d : List ℕ = c.leaf_digest-digest.result in
    let more : l < length rest = search rules in
    let one : l ≡ 1 * l = omega arith in
    let is : d ≡ node_digest 64 s place 0 false (take l rest) = search rules in
    FirstDigestsAreWritten-more_leaves 1 l _ d nodes.some_length one more (search rules)
    (search rules) (search rules)
    (range_digests-first_leaf_and_rest s place c.args.ends rest nodes.some_length more
    ∙ ap (λ b. b ++ range_digests s (place + 1) c.args.ends (drop l rest)) (sym is))
    c.loop-rest.invariant

pub returns : goal.returns
returns c =
    let nodes = c.args.self.now in
    let s = shared_parameters nodes in
    let l : ℕ = nodes.leaf_length in
    let first : ℕ = c.args.first in
    let ends : Bool = c.args.ends in
    let done : ℕ = c.loop-rest.done in
    let rest : List ℕ = c.loop-rest.rest.now in
    let out : List ℕ = c.loop-rest.out in
    let d : List ℕ = c.leaf_digest-digest-2.result in
    let short : length rest ≤ l = c.loop-rest-test.false in
    let size : length d ≡ 64 = search rules in
    let count = leaf_count-at_most_one_leaf l (length rest) nodes.some_length short in
    let is : range_digests s (first + done) ends rest ≡ d =
    range_digests-single_leaf s (first + done) ends rest nodes.some_length short
    ∙ sym c.leaf_digest-digest-2.ensures in
    overwritten_output-is_all (64 * done) out c.write_at-2.new.out d
    (range_digests s first ends c.args.bytes.now)
    (omega (arith, c.loop-rest.invariant.room)) c.write_at-2.ensures
    (ap (λ r. take (64 * done) out ++ r) (sym is) ∙ c.loop-rest.invariant.written)
