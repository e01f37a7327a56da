use Rattle.blake2_tree.proofs.RootsOfCalls.{future-after_leaf_digests, future-after_any_digests}
use Rattle.blake2_state.proofs.tree.TreeState.close_given.Goals as goal

pub returns-clause-future : goal.returns-clause-future
returns-clause-future c = λ begun x y whole more are.
    future-after_leaf_digests c.requires.ready.lengths.some begun whole are c.update.ensures.updated
    (rw c.nodes-nodes.ensures at c.node_state-self.ensures.fresh) y more

pub returns-clause-root : goal.returns-clause-root
returns-clause-root c =
    future-after_any_digests _ _ c.requires.ready.lengths.some c.update.ensures.updated
    (rw c.nodes-nodes.ensures at c.node_state-self.ensures.fresh)
