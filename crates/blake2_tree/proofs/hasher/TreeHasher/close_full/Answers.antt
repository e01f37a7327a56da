use Rattle.blake2.specs.Hashers.{blake2b_meaning}
use Rattle.blake2_tree.proofs.RootsOfCalls.{future-unchanged_by_closing_leaf}
use Rattle.blake2_tree.proofs.RootsOfCalls.{root-absorbs_leaf_digest}
use Rattle.blake2_tree.proofs.hasher.TreeHasher.close_full.Goals as goal

pub returns-clause-future : goal.returns-clause-future
returns-clause-future g c =
    let old = c.args.self.now in
    future-unchanged_by_closing_leaf _ _ old.leaf old.nodes.some_length c.requires.full
    old.not_the_last
    (rw (c.finalize_fixed.ensures, c.replace-full.ensures.value) at c.update.ensures)
    (rw (← c.replace-full.ensures.after) at c.open_node-next.ensures)

pub returns-clause-root : goal.returns-clause-root
returns-clause-root g c =
    let old = c.args.self.now in
    root-absorbs_leaf_digest (blake2b_meaning 64) old.leaf old.not_the_last
    (rw (c.finalize_fixed.ensures, c.replace-full.ensures.value) at c.update.ensures)
