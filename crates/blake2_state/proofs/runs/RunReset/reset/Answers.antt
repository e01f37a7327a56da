use Rattle.std.proofs.Common.{rules}
use Rattle.blake2_state.proofs.RunLaws.{StartedAgain-of_blake2b_state}
use Rattle.blake2_state.proofs.RunLaws.{StartedAgain-of_blake2s_state}
use Rattle.blake2_state.proofs.runs.RunReset.reset.Goals.{in-Blake2b, in-Blake2s}
use Rattle.blake2_state.proofs.runs.RunReset.reset.Goals as goal

pub returns : goal.returns
returns c = elim c.match-self.branch [
  | in-Blake2b w ↦ StartedAgain-of_blake2b_state (search rules) (search rules) w.reset.ensures.reset
  | in-Blake2s w ↦ StartedAgain-of_blake2s_state (search rules) (search rules)
      w.reset-in-Blake2s.ensures.reset
]
