use Rattle.std.proofs.Common.{ap, arith, rules}
use Rattle.blake2_tree.specs.NodeViews.{shared_parameters}
use Rattle.blake2_tree.specs.TreeHashers.{held_tree}
use Rattle.blake2_tree.proofs.LeafUpdateLaws.{HasAbsorbedLeaves-no_digests}
use Rattle.blake2_tree.proofs.LeafUpdateLaws.{HasAbsorbedLeaves-after_closed_leaf}
use Rattle.blake2_tree.proofs.LeafUpdateLaws.{HasAbsorbedDigests-no_digests}
use Rattle.blake2_tree.proofs.LeafUpdateLaws.{HasAbsorbedDigests-after_closed_leaf}
use Rattle.blake2_tree.proofs.LeafUpdateLaws.{count_after_digests-below_limit}
use Rattle.blake2_tree.proofs.hasher.TreeHasher.update_leaves.Goals as goal

pub returns-then-is_empty-clause-digests : goal.returns-then-is_empty-clause-digests
returns-then-is_empty-clause-digests g c = HasAbsorbedDigests-no_digests (search rules)
    c.update.ensures

pub returns-then-is_empty-clause-took : goal.returns-then-is_empty-clause-took
returns-then-is_empty-clause-took g c =
    HasAbsorbedLeaves-no_digests c.args.self.now.nodes.some_length (search rules) c.update.ensures

pub close_given-requires : goal.close_given-requires
close_given-requires g c =
    let fits =
    count_after_digests-below_limit (held_tree c.begin_leaf.new.self) c.requires (search rules)
    (ap shared_parameters c.begin_leaf.ensures.nodes) c.begin_leaf.ensures.count in
    (omega arith, (c.begin_leaf.ensures.empty, (c.requires.whole, fits)))

pub returns-clause-digests : goal.returns-clause-digests
returns-clause-digests g c =
    let begun = c.begin_leaf.ensures in
    let given = c.close_given.ensures in
    HasAbsorbedDigests-after_closed_leaf (held_tree c.begin_leaf.new.self) (search rules) begun.root
    begun.closed
    (ap shared_parameters begun.nodes) begun.count given.root (ap shared_parameters given.nodes)
    given.count c.update-2.ensures

pub returns-clause-took : goal.returns-clause-took
returns-clause-took g c =
    let begun = c.begin_leaf.ensures in
    let given = c.close_given.ensures in
    HasAbsorbedLeaves-after_closed_leaf (held_tree c.begin_leaf.new.self)
    c.args.self.now.nodes.some_length c.requires
    (search rules) begun.future begun.closed (ap shared_parameters begun.nodes) begun.count
    given.future (ap shared_parameters given.nodes) given.count c.update-2.ensures
