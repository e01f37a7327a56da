-- States that go on in lanes, each with a text of its own.
use Rattle.std.specs.Prelude.{◌≡◌, ◌⊎◌, ℕ, ◌+◌, ◌<◌, ◌≤◌, List, [], length, take, drop, ◌++◌}
use Rattle.std.specs.Prelude.{slice_index_or}
use Rattle.b2sum.specs.declared.lanes.Lane.{Lane}

-- A state is the old one after it absorbs these bytes.
pub record StateAbsorbs {S : Type 0} (IsReady : S → Type 0) (size count : S → ℕ)
    (future : S → List ℕ → List ℕ) (old : S) (x : List ℕ) (new : S) : Type 0 where
  pub ready : IsReady new
  pub same_size : size new ≡ size old
  pub counted : count new ≡ count old + length x
  pub absorbed : (y : List ℕ) → future new y ≡ future old (x ++ y)

-- A state has absorbed the first bytes of a text, so many, for a digest of n bytes, and has room
-- for the rest.
pub record StateIsAtOffset {S : Type 0} (IsReady : S → Type 0) (size count : S → ℕ) (limit : ℕ)
    (future : S → List ℕ → List ℕ) (n : ℕ) (digest : List ℕ → List ℕ) (at : ℕ) (text : List ℕ)
    (s : S) : Type 0 where
  pub ready : IsReady s
  pub has_size : size s ≡ n
  pub has_room : count s + length (drop at text) < limit
  pub absorbed : (y : List ℕ) → future s y ≡ digest (take at text ++ y)

-- A lane is somewhere in one of these texts.
abbrev pub LaneIsInText : List (List ℕ) → Lane → Type 0
LaneIsInText texts lane =
    (lane.text < length texts) × (lane.at ≤ length (slice_index_or texts lane.text []))

-- At most so many bytes of the text of a lane, from its place on.
abbrev pub next_piece_of_lane : List (List ℕ) → ℕ → Lane → List ℕ
next_piece_of_lane texts most lane = take most (drop lane.at (slice_index_or texts lane.text []))

-- Where a lane is after these.
abbrev pub lane_after_piece : List (List ℕ) → ℕ → Lane → Lane
lane_after_piece texts most lane = record {
  text = lane.text;
  at = lane.at + length (next_piece_of_lane texts most lane);
}

-- A state is at the place of a lane.
abbrev pub StateIsAtLane : {S : Type 0} → (S → Type 0) → (S → ℕ) → (S → ℕ) → ℕ
    → (S → List ℕ → List ℕ) → ℕ
    → (List ℕ → List ℕ) → List (List ℕ) → Lane → S → Type 0
StateIsAtLane IsReady size count limit future n digest texts lane s =
    StateIsAtOffset IsReady size count limit future n digest lane.at
    (slice_index_or texts lane.text []) s

-- The digest of n bytes of a text is at the front of its place.
abbrev pub DigestIsWritten : (List ℕ → List ℕ) → ℕ → List ℕ → List ℕ → Type 0
DigestIsWritten digest n text place = take n place ≡ digest text

-- Each of the first texts, so many, is done, or one of these lanes is in it.
abbrev pub TextsAreDoneOrInLanes : (List ℕ → List ℕ) → ℕ → List (List ℕ) → List (List ℕ) → List Lane
    → ℕ → ℕ
    → ℕ → Type 0
TextsAreDoneOrInLanes digest n texts out lanes low high most = (t : ℕ) → t < most
    → DigestIsWritten digest n (slice_index_or texts t []) (slice_index_or out t [])
    ⊎ ((j : ℕ) × (l : Lane) × (low ≤ j) × (j < high) × ((slice_index_or lanes j l).text ≡ t))
