use Rattle.std.proofs.Common.{◌≡◌, ◌<◌, ◌≤◌, ℕ, length, map, slice_index_or}
use Rattle.b2sum.specs.declared.lanes.Lane.{Lane}
use Rattle.b2sum.specs.LaneStates.{StateIsAtLane, LaneIsInText}
use Rattle.b2sum.proofs.lanes.start_all.Given as goal

abbrev pub invariant-loop-j : goal.invariant-loop-j
invariant-loop-j g l = record {
  number : length l.states ≡ 8;
  lanes : length l.lanes ≡ 8;
  most : 0 < l.j → l.given.output_size ≤ 64;
  texts : (k : ℕ) (x : Lane) → k < l.j → (slice_index_or l.lanes k x).text ≡ k;
  within : (k : ℕ) (x : Lane) → k < l.j
      → LaneIsInText (map (λ t. t.now) l.texts) (slice_index_or l.lanes k x);
  states : (k : ℕ) (x : Lane) (s : g.row.H.Denot) → k < l.j
      → StateIsAtLane g.H.Absorb.IsReady g.H.Absorb.size g.H.Absorb.count
      g.H.Absorb.limit g.H.Absorb.future l.given.output_size (g.H.HashState.digest l.given)
      (map (λ t. t.now) l.texts) (slice_index_or l.lanes k x) (slice_index_or l.states k s);
}
