use Rattle.std.proofs.Common.{◌-◌, ◌≤◌, length}
use Rattle.blake2_state.specs.Blake2b.{Absorbed, zeros}
use Rattle.blake2_state.specs.SeveralStates.{AreUpdated, input_bytes_at}
use Rattle.blake2_state.proofs.many.blake2b.update_many.Given as goal

abbrev pub invariant-loop-done : goal.invariant-loop-done
invariant-loop-done l = (l.done ≤ length l.inputs)
    × AreUpdated Absorbed zeros l.fn.states (input_bytes_at l.inputs) l.states 0 l.done

abbrev pub decreases-loop-done : goal.decreases-loop-done
decreases-loop-done l = length l.inputs - l.done
