use Rattle.std.proofs.Common.{rules}
use Rattle.blake2_state.proofs.RunLaws.{Updated-of_blake2b_state, Updated-of_blake2s_state}
use Rattle.blake2_state.proofs.runs.RunUpdate.update.Goals.{in-Blake2b, in-Blake2s}
use Rattle.blake2_state.proofs.runs.RunUpdate.update.Goals as goal

pub returns : goal.returns
returns c = elim c.match-self.branch [
  | in-Blake2b w ↦ Updated-of_blake2b_state (search rules) (search rules) w.update.ensures.updated
  | in-Blake2s w ↦ Updated-of_blake2s_state (search rules) (search rules)
      w.update-in-Blake2s.ensures.updated
]
