-- A reset satisfies its contract: the digests are those from the start.
use Rattle.std.specs.Prelude.{◌≡◌, ℕ, Bool, List, length, refl}
use Rattle.std.proofs.Common.{ap, ◌∙◌, zero-add}
use Rattle.blake2_simd.specs.Family.{Family}
use Rattle.blake2_digest.specs.States.{Meaning, ResetToStart}
use Rattle.blake2.specs.States.{State, future, started, count, start_count, meaning_by, unflagged}
use Rattle.blake2.specs.States.{IsRestarted}

-- A reset of the state that a value holds satisfies the contract of a reset.
pub StartedAgain_by : {S : Type 0} (f : Family) (n : ℕ) (state_of : S → State) (old new : S)
    → IsRestarted state_of old new → ResetToStart (meaning_by f n state_of) old new
unfolding future started
StartedAgain_by f n state_of old new e = record {
  future = λ flag y. ap (λ s. future f n s flag y) e;
  started = λ flag y. ap (λ s. started f n s flag y) e;
  last_node = ap (λ s. s.core.last_node) e;
  count = ap count e ∙ zero-add (length (state_of old).start_block);
  start_count = ap start_count e;
}

-- The contract of a reset also holds for a type whose last-node flag is always off.
pub StartedAgain_unflagged : {S : Type 0} (m : Meaning S) (old new : S) → ResetToStart m old new
    → ResetToStart (unflagged m) old new
StartedAgain_unflagged m old new again = record {
  future = again.future;
  started = again.started;
  last_node = refl;
  count = again.count;
  start_count = again.start_count;
}
