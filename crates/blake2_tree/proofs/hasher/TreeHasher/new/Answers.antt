use Rattle.std.proofs.Common.{ap, ◌∙◌}
use Rattle.blake2_tree.specs.TreeRoot.{tree_root}
use Rattle.blake2_tree.proofs.RootsOfCalls.{future-of_new_tree_is_root}
use Rattle.blake2_tree.proofs.hasher.TreeHasher.new.Goals as goal

pub returns-clause-root : goal.returns-clause-root
returns-clause-root g c = λ y.
    future-of_new_tree_is_root _ _ c.new-nodes.result.some_length
    c.open_node.ensures c.open_node-2.ensures y
    ∙ ap (λ s. tree_root g.row.N s y) c.new-nodes.ensures
