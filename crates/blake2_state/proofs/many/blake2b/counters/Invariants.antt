use Rattle.std.proofs.Common.{◌≡◌, ◌+◌, slice_index_or}
use Rattle.blake2_compress.proofs.ManyMessages.{HoldsForFirst}
use Rattle.blake2_state.specs.Blake2b.{zeros}
use Rattle.blake2_state.proofs.many.blake2b.counters.Given as goal

abbrev pub invariant-loop-j : goal.invariant-loop-j
invariant-loop-j g l = HoldsForFirst g.row.N 0
    (λ k x. x ≡ (slice_index_or l.states (l.from + k) zeros).counter) l.counted l.j
