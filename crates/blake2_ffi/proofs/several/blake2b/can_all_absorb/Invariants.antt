use Rattle.std.proofs.Common.{◌<◌, ℕ}
use Rattle.blake2_state.specs.Blake2b.{CanAbsorbAt}
use Rattle.blake2_ffi.proofs.several.blake2b.can_all_absorb.Given as goal

-- Those that were looked at can absorb their inputs.
abbrev pub invariant-loop-j : goal.invariant-loop-j
invariant-loop-j l = (k : ℕ) → k < l.j → CanAbsorbAt l.states l.inputs k
