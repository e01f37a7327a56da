-- What the states of BLAKE2bp mean.
use Rattle.std.specs.Prelude.{◌≡◌, ℕ, ◌+◌, ◌*◌, ◌^◌, ◌<◌, ◌≤◌, take, replicate}
use Rattle.std.specs.List.{flat_map}
use Rattle.blake2_simd.specs.Family.{blake2b}
use Rattle.blake2_simd.specs.Lanes.{in_lane}
use Rattle.blake2_digest.specs.States.{Meaning}
use Rattle.blake2_parallel.specs.declared.lanes.blake2bp.Lanes.{Lanes}
use Rattle.blake2_parallel.specs.declared.blake2bp.State.{State}
use Rattle.blake2_parallel.specs.LeafStates.{Leaves}
use Rattle.blake2_parallel.specs.States.{Held, parallel_meaning_by}

-- The leaves that lanes hold. The pending bytes are at the beginning of their field.
abbrev pub leaves_of : Lanes → Leaves
leaves_of s = record {
  words = λ j. in_lane j s.rows;
  count = s.counter;
  pending = take s.length s.pending;
}

-- At most seven blocks are pending, and the count is below 2^64.
pub record HasBoundedCounts (s : Lanes) : Type 0 where
  pub within : s.length ≤ 896
  pub counted : 4 * s.counter + s.length < 2 ^ 64

-- What a state holds: its leaves, those that a start leaves, and its root.
abbrev pub held_by : State → Held
held_by s = record {
  leaves = leaves_of s.lanes;
  first = record {
    words = λ j. in_lane j s.first;
    count = 0;
    pending = take s.start_length (flat_map (λ x. x) (replicate 4 s.key_block));
  };
  root = s.root;
  size = s.output_size;
}

-- The meaning of a state: the digests that it will return, of the length that it holds, and the
-- bytes that it counts.
abbrev pub meaning : Meaning State
meaning = parallel_meaning_by blake2b held_by

-- The state's lengths and counts are those of a hash. Its digest may be empty.
pub record IsWithinLimits (s : State) : Type 0 where
  pub most : s.output_size ≤ 64
  pub lanes : HasBoundedCounts s.lanes
  pub start : s.start_length ≤ 512

-- The state returns digests: its digest length is one of BLAKE2b's, at most seven blocks are
-- pending, a start leaves at most four, and the count is below 2^64.
pub record IsReady (s : State) : Type 0 where
  pub least : 1 ≤ s.output_size
  pub within : IsWithinLimits s

-- The state returns digests of `size` bytes.
abbrev pub IsReadyFor : ℕ → State → Type 0
IsReadyFor size s = IsReady s × (s.output_size ≡ size)

-- The zeroed state with digests of `size` bytes.
abbrev pub zeros_for : ℕ → State
zeros_for size = record {
  lanes = record {
    rows = replicate 8 (replicate 4 0);
    counter = 0;
    length = 0;
    pending = replicate 896 0;
  };
  first = replicate 8 (replicate 4 0);
  root = replicate 8 0;
  start_length = 0;
  output_size = size;
  key_block = replicate 128 0;
}

-- The zeroed state, which returns no digests.
abbrev pub zeros : State
zeros = zeros_for 0
