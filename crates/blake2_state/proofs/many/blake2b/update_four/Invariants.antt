use Rattle.std.proofs.Common.{◌+◌}
use Rattle.blake2_state.specs.Blake2b.{Absorbed, zeros}
use Rattle.blake2_state.specs.SeveralStates.{AreUpdated, input_bytes_at}
use Rattle.blake2_state.proofs.many.blake2b.update_four.Given as goal

abbrev pub invariant-loop-j : goal.invariant-loop-j
invariant-loop-j l = AreUpdated Absorbed zeros l.fn.states (input_bytes_at l.inputs) l.states
    l.from (l.from + l.j)
