use Rattle.std.proofs.Common.{◌≡◌, ℕ, ◌<◌}
use Rattle.blake2_compress.specs.MessagePieces.{piece}
use Rattle.blake2_compress.proofs.laws.pieces.first_difference.Given as goal

-- No pair before index i differs.
abbrev pub invariant-loop-i : goal.invariant-loop-i
invariant-loop-i l = (j : ℕ) → j < l.i → piece l.size l.a j ≡ piece l.size l.b j
