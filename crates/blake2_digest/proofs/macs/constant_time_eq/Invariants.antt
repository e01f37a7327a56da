use Rattle.std.proofs.Common.{◌≡◌, ℕ, ◌<◌, ◌↔◌, get_or}
use Rattle.blake2_digest.proofs.macs.constant_time_eq.Given as goal

abbrev pub invariant-loop-i : goal.invariant-loop-i
invariant-loop-i l = (l.difference ≡ 0) ↔ ((k : ℕ) → k < l.i → get_or l.a k 0 ≡ get_or l.b k 0)
