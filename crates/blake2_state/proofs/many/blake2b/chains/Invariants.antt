use Rattle.std.proofs.Common.{◌≡◌, ◌+◌, [], length, slice_index_or}
use Rattle.blake2_compress.proofs.ManyMessages.{HoldsForFirst}
use Rattle.blake2_state.specs.Blake2b.{zeros}
use Rattle.blake2_state.proofs.many.blake2b.chains.Given as goal

abbrev pub invariant-loop-j : goal.invariant-loop-j
invariant-loop-j g l = HoldsForFirst g.row.N [] (λ k x. (length x ≡ 8)
    × (x ≡ (slice_index_or l.states (l.from + k) zeros).chain)) l.words l.j
