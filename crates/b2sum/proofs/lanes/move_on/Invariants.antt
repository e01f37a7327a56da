use Rattle.std.proofs.Common.{◌≡◌, ◌<◌, ◌≤◌, ℕ, length, map, slice_index_or}
use Rattle.b2sum.specs.declared.lanes.Lane.{Lane}
use Rattle.b2sum.specs.LaneStates.{lane_after_piece}
use Rattle.b2sum.proofs.lanes.move_on.Given as goal

abbrev pub invariant-loop-j : goal.invariant-loop-j
invariant-loop-j l = record {
  number : length l.lanes ≡ length l.fn.lanes;
  moved : (k : ℕ) (x : Lane) → k < l.j → slice_index_or l.lanes k x
      ≡ lane_after_piece (map (λ t. t.now) l.texts) l.most (slice_index_or l.fn.lanes k x);
  others : (k : ℕ) (x : Lane) → l.j ≤ k → slice_index_or l.lanes k x ≡ slice_index_or l.fn.lanes k x;
}
