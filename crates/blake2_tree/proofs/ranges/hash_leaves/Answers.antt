use Rattle.std.proofs.Common.{rules, subst, ◌≡◌}
use Rattle.blake2_tree.specs.TreeRoot.{tree_parameters}
use Rattle.blake2_tree.specs.LeafRanges.{range_digests, AreDigestsInEveryMessage}
use Rattle.blake2_tree.proofs.RangeLaws.{range_digests-are_in_every_message}
use Rattle.blake2_tree.proofs.ranges.hash_leaves.Goals as goal

pub returns-clause-part : goal.returns-clause-part
returns-clause-part c =
    let p = tree_parameters c.args.salt.now c.args.persona.now c.args.leaf_length in
    let bytes = c.args.bytes.now in
    let are : range_digests p c.args.first c.args.ends bytes ≡ c.write_digests.new.out =
    search rules in
    subst (AreDigestsInEveryMessage p c.args.first c.args.ends bytes) are
    (range_digests-are_in_every_message p c.args.first c.args.ends bytes c.requires.leaf_length
    c.requires.range)
