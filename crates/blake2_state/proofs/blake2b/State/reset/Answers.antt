use Rattle.std.proofs.Common.{refl}
use Rattle.blake2_state.proofs.StateLaws.{StartedAgain-from_restarted_state}
use Rattle.blake2_state.proofs.blake2b.State.reset.Goals as goal

pub returns-clause-reset : goal.returns-clause-reset
returns-clause-reset c = rw c.write_padded.ensures (StartedAgain-from_restarted_state _ _ _ refl
    refl)
