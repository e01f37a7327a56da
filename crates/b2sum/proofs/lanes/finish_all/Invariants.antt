use Rattle.std.proofs.Common.{◌≡◌, ◌<◌, ℕ, length, map, slice_index_or}
use Rattle.b2sum.specs.declared.lanes.Lane.{Lane}
use Rattle.b2sum.specs.LaneStates.{TextsAreDoneOrInLanes, StateIsAtLane, LaneIsInText}
use Rattle.b2sum.proofs.lanes.finish_all.Given as goal

abbrev pub invariant-loop-lane : goal.invariant-loop-lane
invariant-loop-lane g l = record {
  number : length l.states ≡ 8;
  lanes : length l.lanes ≡ 8;
  out : length l.out ≡ length l.texts;
  within : (k : ℕ) (x : Lane) → k < l.count
      → LaneIsInText (map (λ t. t.now) l.texts) (slice_index_or l.lanes k x);
  states : (k : ℕ) (x : Lane) (s : g.row.H.Denot) → k < l.count
      → StateIsAtLane g.H.Absorb.IsReady g.H.Absorb.size g.H.Absorb.count
      g.H.Absorb.limit g.H.Absorb.future l.given.output_size (g.H.HashState.digest l.given)
      (map (λ t. t.now) l.texts) (slice_index_or l.lanes k x) (slice_index_or l.states k s);
  begun : TextsAreDoneOrInLanes (g.H.HashState.digest l.given) l.given.output_size
      (map (λ t. t.now) l.texts)
      l.out l.lanes l.lane l.count (length l.texts);
}
