use Rattle.std.proofs.Common.{◌≡◌, ℕ, ◌*◌, ◌+◌, ◌≤◌, ◌++◌, Bool, List, length, take, sym, ap, ◌∙◌}
use Rattle.std.proofs.Common.{rules, arith}
use Rattle.std.proofs.lemmas.List.{take_rest}
use Rattle.blake2_tree.specs.LeafRanges.{range_digests}
use Rattle.blake2_tree.specs.NodeViews.{shared_parameters}
use Rattle.b2_commands.proofs.LeafRuns.{range_digests-split_after_leaves, range_digests-single_leaf}
use Rattle.b2_commands.proofs.leaves.hash_range.Goals as goal

pub hashing-preserved : goal.hashing-preserved
hashing-preserved c =
    let s = shared_parameters c.args.nodes.now in
    let k : ℕ = c.hash_next-count.result in
    let m : ℕ = k * c.args.part.now.leaf_length in
    let first : ℕ = c.hashing.first in
    let ends : Bool = c.args.part.now.ends in
    let rest : List ℕ = c.hashing.rest.now in
    let digests : List ℕ = c.hashing.digests.items in
    let d : List ℕ = take (64 * k) c.hash_next-count.new.digests in
    let next = c.hash_next-count.ensures in
    let pushed : c.extend_from_slice.new.self.items ≡ digests ++ d = search rules in
    record {
      place = search rules;
      joined = (λ i. pushed i ++ range_digests s (first + k) ends (take_rest rest m i))
          ∙ range_digests-split_after_leaves s first k m ends rest digests d _
          c.args.nodes.now.some_length next.some
          (ap (λ n. k * n) (sym c.requires.leaf)) next.more next.digests
          c.hashing.invariant.joined;
    }

pub returns : goal.returns
returns c =
    let s = shared_parameters c.args.nodes.now in
    let first : ℕ = c.hashing.first in
    let ends : Bool = c.args.part.now.ends in
    let rest : List ℕ = c.hashing.rest.now in
    let digests : List ℕ = c.hashing.digests.items in
    let short : length rest ≤ s.leaf_length =
    omega (arith, c.requires.leaf, c.hashing-test.false) in
    let last : range_digests s first ends rest ≡ c.hash_leaf.result =
    range_digests-single_leaf s first ends rest c.args.nodes.now.some_length short
    ∙ sym c.hash_leaf.ensures in
    let pushed : c.extend_from_slice-2.new.self.items ≡ digests ++ c.hash_leaf.result =
    search rules in
    pushed ∙ ap (λ d. digests ++ d) (sym last) ∙ c.hashing.invariant.joined
