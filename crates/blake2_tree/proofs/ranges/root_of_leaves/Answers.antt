use Rattle.std.proofs.Common.{rules, subst, ◌≡◌}
use Rattle.blake2_simd.specs.Family.{blake2b}
use Rattle.blake2_compress.specs.Hash.{digest}
use Rattle.blake2_tree.specs.TreeRoot.{root_input_over_digests, tree_parameters}
use Rattle.blake2_tree.specs.LeafRanges.{IsRootOfCuts, IsRootAfterReplacement}
use Rattle.blake2_tree.proofs.RangeLaws.{root_over_digests-is_root_of_cuts}
use Rattle.blake2_tree.proofs.RangeLaws.{root_over_digests-after_replacement}
use Rattle.blake2_tree.proofs.ranges.root_of_leaves.Goals as goal

pub returns-clause-cuts : goal.returns-clause-cuts
returns-clause-cuts g c =
    let p = tree_parameters c.args.salt.now c.args.persona.now c.args.leaf_length in
    let root : digest blake2b g.row.N (root_input_over_digests p c.args.digests.now)
    ≡ c.root_of.result =
    search rules in
    subst (IsRootOfCuts g.row.N p c.args.digests.now) root
    (root_over_digests-is_root_of_cuts g.row.N p c.args.digests.now c.requires.leaf_length)

pub returns-clause-changes : goal.returns-clause-changes
returns-clause-changes g c =
    let p = tree_parameters c.args.salt.now c.args.persona.now c.args.leaf_length in
    let root : digest blake2b g.row.N (root_input_over_digests p c.args.digests.now)
    ≡ c.root_of.result =
    search rules in
    subst (IsRootAfterReplacement g.row.N p c.args.digests.now) root
    (root_over_digests-after_replacement g.row.N p c.args.digests.now c.requires.leaf_length)
