use Rattle.std.proofs.Common.{◌≡◌, ℕ, ◌*◌, List, length, take, sym, ap, ◌∙◌, rules, arith, false}
use Rattle.std.proofs.lemmas.List.{take_at, length-take-le}
use Rattle.blake2_tree.specs.LeafRanges.{range_digests}
use Rattle.blake2_tree.specs.NodeViews.{shared_parameters, node_digest}
use Rattle.b2_commands.proofs.LeafRuns.{range_digests-single_leaf}
use Rattle.b2_commands.proofs.leaves.hash_next.Goals as goal

pub returns-clause-digests : goal.returns-clause-digests
returns-clause-digests c =
    let s = shared_parameters c.args.nodes.now in
    let i : ℕ = c.args.i in
    let l : ℕ = c.args.leaf_length in
    let text : List ℕ = c.args.text.now in
    let size : length c.copy_from_slice.new.self ≡ 64 = search rules in
    let is : c.hash_leaf.result ≡ node_digest 64 s i 0 false (take l text) = search rules in
    let one : l ≡ 1 * l = omega arith in
    take_at c.copy_from_slice.new.self _ 64 size ∙ c.copy_from_slice.ensures.after ∙ is
    ∙ sym (range_digests-single_leaf s i false (take l text) c.args.nodes.now.some_length
    (omega (
      arith,
      c.requires.leaf,
      length-take-le l text (omega (arith, c.requires.more)),
    )))
    ∙ ap (λ n. range_digests s i false (take n text)) one
