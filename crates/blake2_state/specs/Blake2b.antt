-- What a plain state of BLAKE2b means.
use Rattle.std.specs.Prelude.{◌≡◌, ℕ, ◌+◌, ◌^◌, ◌<◌, ◌≤◌, List, ◌++◌, length, take, replicate}
use Rattle.std.specs.Prelude.{slice_index_or}
use Rattle.blake2_simd.specs.Family.{blake2b}
use Rattle.blake2_digest.specs.States.{Meaning, Updated}
use Rattle.blake2_digest.specs.Texts.{padded}
use Rattle.blake2.specs.States as Held
use Rattle.blake2_state.specs.declared.blake2b.State.{State}
use Rattle.blake2_state.specs.States.{is_on, meaning_sized, named_key_size}
use Rattle.blake2_state.specs.SavedStates.{encoding}
use Rattle.blake2_state.specs.SeveralStates.{input_bytes_at}
use Rattle.blake2_state.specs.declared.many.Text.{Text}

-- The state that a plain state holds. The pending bytes are at the beginning of their field, and
-- the start block is at the beginning of the key's block, which is the key padded with zeros.
abbrev pub state_of : State → Held.State
state_of s = record {
  core = record { h = s.chain; start = s.first; count = s.counter; last_node = is_on s.last_node };
  pending = take s.pending_length s.pending;
  start_block = take s.start_length (padded 128 s.key);
}

-- The meaning of a plain state: the digests that it will return, of the length that it holds, its
-- last-node flag, and the bytes that it counts.
abbrev pub meaning : Meaning State
meaning = meaning_sized blake2b (λ s. s.output_size) state_of

-- The state returns digests: its digest length is one of BLAKE2b's, its pending bytes and its start
-- block are at most a block, and the count is below 2^64.
pub record IsReady (s : State) : Type 0 where
  pub least : 1 ≤ s.output_size
  pub most : s.output_size ≤ 64
  pub pending : s.pending_length ≤ 128
  pub start : s.start_length ≤ 128
  pub counted : s.counter + s.pending_length < 2 ^ 64

-- The number of bytes of the state's key, as the parameter block names it from which its run
-- started.
abbrev pub key_length : State → ℕ
key_length s = named_key_size blake2b s.first

-- The state has a key.
abbrev pub IsKeyed : State → Type 0
IsKeyed s = 1 ≤ key_length s

-- The state returns digests of `size` bytes.
abbrev pub IsReadyFor : ℕ → State → Type 0
IsReadyFor size s = IsReady s × (s.output_size ≡ size)

-- What is not compressed yet, if the state is given this input.
abbrev pub pending_and_input : State → List ℕ → List ℕ
pending_and_input s x = take s.pending_length s.pending ++ x

-- The state can absorb this input: it is ready, and the count stays below 2^64.
abbrev pub CanAbsorb : State → List ℕ → Type 0
CanAbsorb s x = IsReady s × (meaning.count s + length x < 2 ^ 64)

-- The new state is the old one after it absorbs this input.
pub record Absorbed (old : State) (x : List ℕ) (new : State) : Type 0 where
  pub ready : IsReady new
  pub size : new.output_size ≡ old.output_size
  pub key : key_length new ≡ key_length old
  pub updated : Updated meaning old x new

-- The state can be saved: it returns digests and has no key.
pub record CanBeSaved (s : State) : Type 0 where
  pub ready : IsReady s
  pub keyless : ¬ IsKeyed s
  pub start : s.start_length ≡ 0

-- The bytes of a saved state.
abbrev pub saved_bytes : State → List ℕ
saved_bytes s = encoding blake2b s.output_size (state_of s)

-- The state holds nothing but what its saved bytes say.
pub record HoldsOnlySavedData (s : State) : Type 0 where
  pub last_node : s.last_node ≤ 1
  pub pending : s.pending ≡ padded 128 (take s.pending_length s.pending)
  pub key : s.key ≡ replicate 64 0

-- The zeroed state, which returns no digests.
abbrev pub zeros : State
zeros = record {
  chain = replicate 8 0;
  first = replicate 8 0;
  counter = 0;
  pending_length = 0;
  start_length = 0;
  output_size = 0;
  last_node = 0;
  pending = replicate 128 0;
  key = replicate 64 0;
}

-- State j of several can absorb its input.
abbrev pub CanAbsorbAt : List State → List Text → ℕ → Type 0
CanAbsorbAt states inputs j = CanAbsorb (slice_index_or states j zeros) (input_bytes_at inputs j)

-- What it has not compressed, with its input.
abbrev pub pending_and_input_at : List State → List Text → ℕ → List ℕ
pending_and_input_at states inputs j = pending_and_input (slice_index_or states j zeros)
    (input_bytes_at inputs j)
