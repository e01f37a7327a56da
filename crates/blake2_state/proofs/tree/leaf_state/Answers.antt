use Rattle.blake2_state.proofs.StateLaws.{AtStart-after_flag_set}
use Rattle.blake2_state.proofs.tree.leaf_state.Goals as goal

pub returns-clause-leaf : goal.returns-clause-leaf
returns-clause-leaf c =
    rw c.new-nodes.ensures at
    (AtStart-after_flag_set c.node_state-leaf.ensures.fresh c.set_last_node.ensures.set)
