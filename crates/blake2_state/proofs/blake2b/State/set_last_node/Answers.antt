use Rattle.std.proofs.Common.{◌≡◌, refl, sym, ap, ◌∙◌}
use Rattle.blake2.specs.States.{node_set}
use Rattle.blake2_state.specs.Blake2b.{state_of}
use Rattle.blake2_state.specs.States.{is_on}
use Rattle.blake2_state.proofs.StateLaws.{NodeSet-from_set_state}
use Rattle.blake2_state.proofs.blake2b.State.set_last_node.Goals as goal
use Rattle.blake2_state.proofs.blake2b.State.set_last_node.Goals.{then-on, else-on}

pub returns-clause-set : goal.returns-clause-set
returns-clause-set c =
    let flag : is_on c.if-on.self ≡ c.args.on = elim c.if-on.branch [
      | then-on w ↦ ap is_on w.self-is ∙ sym w.if-on.true
      | else-on w ↦ ap is_on w.self-is ∙ sym w.if-on.false
    ] in
    NodeSet-from_set_state _ _ _ refl (ap (node_set (state_of c.args.self.now)) flag)
