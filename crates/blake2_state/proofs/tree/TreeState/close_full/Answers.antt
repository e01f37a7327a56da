use Rattle.std.proofs.Common.{◌∙◌, ℕ, true, false, List, [], ◌++◌, ap, arith}
use Rattle.blake2_state.specs.Blake2b.{meaning}
use Rattle.blake2_state.specs.TreeStates.{parameters}
use Rattle.blake2_tree.proofs.RootsOfCalls.{future-unchanged_by_closing_leaf}
use Rattle.blake2_tree.proofs.RootsOfCalls.{future-after_open_leaf_absorbs}
use Rattle.blake2_tree.proofs.RootsOfCalls.{root-absorbs_leaf_digest}
use Rattle.blake2_state.proofs.tree.TreeState.close_full.Goals as goal

pub returns-clause-future : goal.returns-clause-future
returns-clause-future c = λ y more.
    let old = c.args.self.now in
    let full = c.set_last_node.new.self in
    let inner = c.set_last_node.ensures.set in
    future-unchanged_by_closing_leaf _ _ full c.requires.ready.lengths.some
    (omega (arith, inner.count, c.requires.full)) inner.last_node
    (rw c.digest_of.ensures at c.update.ensures.updated)
    (rw c.nodes-nodes.ensures at c.node_state-self.ensures.fresh) y more
    ∙ future-after_open_leaf_absorbs meaning meaning (parameters old) old.closed old.root old.leaf
    full [] y
    inner.future (omega (arith, inner.count)) (omega arith)

pub returns-clause-root : goal.returns-clause-root
returns-clause-root c = λ z.
    let inner = c.set_last_node.ensures.set in
    root-absorbs_leaf_digest meaning c.set_last_node.new.self inner.last_node
    (rw c.digest_of.ensures at c.update.ensures.updated) z
    ∙ ap (λ (d : List ℕ). meaning.future c.args.self.now.root true (d ++ z)) (inner.future false [])
