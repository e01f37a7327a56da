-- Made by tools/twins.py from proofs/many/blake2b/update_many/Answers.antt.
use Rattle.std.proofs.Common.{arith}
use Rattle.blake2_state.specs.Blake2s.{Absorbed, zeros}
use Rattle.blake2_state.proofs.SeveralStates.{AreUpdated-empty_range}
use Rattle.blake2_state.proofs.many.blake2s.update_many.Goals as goal

pub loop-done-init : goal.loop-done-init
loop-done-init c = (omega arith, AreUpdated-empty_range Absorbed zeros _ _ 0)
