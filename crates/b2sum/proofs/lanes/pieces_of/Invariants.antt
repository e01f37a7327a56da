use Rattle.std.proofs.Common.{◌≡◌, ◌<◌, ℕ, length, map, slice_index_or}
use Rattle.blake2_state.specs.SeveralStates.{input_bytes_at}
use Rattle.b2sum.specs.declared.lanes.Lane.{Lane}
use Rattle.b2sum.specs.LaneStates.{next_piece_of_lane}
use Rattle.b2sum.proofs.lanes.pieces_of.Given as goal

abbrev pub invariant-loop-j : goal.invariant-loop-j
invariant-loop-j l = (length l.pieces ≡ 8) × ((k : ℕ) (x : Lane) → k < l.j
    → input_bytes_at l.pieces k
    ≡ next_piece_of_lane (map (λ t. t.now) l.texts) l.most (slice_index_or l.lanes k x))
