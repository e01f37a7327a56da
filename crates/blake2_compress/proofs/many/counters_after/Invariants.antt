use Rattle.std.proofs.Common.{◌≡◌, ◌+◌, slice_index}
use Rattle.blake2_compress.proofs.ManyMessages.{HoldsForFirst}
use Rattle.blake2_compress.proofs.many.counters_after.Given as goal

abbrev pub invariant-loop-j : goal.invariant-loop-j
invariant-loop-j g l =
    HoldsForFirst g.row.N 0 (λ k x. x ≡ slice_index l.counters k + l.count) l.after l.j
