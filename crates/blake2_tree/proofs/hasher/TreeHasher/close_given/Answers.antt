use Rattle.blake2_tree.proofs.RootsOfCalls.{future-after_leaf_digests, future-after_any_digests}
use Rattle.blake2_tree.proofs.hasher.TreeHasher.close_given.Goals as goal

pub returns-clause-future : goal.returns-clause-future
returns-clause-future g c = λ x y whole more are.
    future-after_leaf_digests c.args.self.now.nodes.some_length
    (c.args.self.now.opened c.requires.empty) whole
    are c.update.ensures c.open_node.ensures y more

pub returns-clause-root : goal.returns-clause-root
returns-clause-root g c =
    future-after_any_digests _ _ c.args.self.now.nodes.some_length
    c.update.ensures c.open_node.ensures
