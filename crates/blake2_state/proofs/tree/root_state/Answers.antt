use Rattle.blake2_state.proofs.StateLaws.{AtStart-after_flag_set}
use Rattle.blake2_state.proofs.tree.root_state.Goals as goal

pub returns-clause-root : goal.returns-clause-root
returns-clause-root c =
    rw c.new-nodes.ensures at
    (AtStart-after_flag_set c.node_state-root.ensures.fresh c.set_last_node.ensures.set)
