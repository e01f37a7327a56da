-- The bytes of a saved state, and which states are saved (docs/SPECIFICATION.md, section 14).
use Rattle.std.specs.Prelude.{◌≡◌, ℕ, ◌+◌, ◌^◌, ◌<◌, ◌≤◌, Bool, List, [], ◌∷◌, ◌++◌, length}
use Rattle.std.specs.Prelude.{if◌then◌else◌, codes}
use Rattle.std.specs.Int.{to_le_bytes, w64}
use Rattle.blake2_simd.specs.Family.{Family, blake2b, blake2s, block_bytes, output_bytes}
use Rattle.blake2_simd.specs.Round.{AreWords}
use Rattle.blake2_compress.specs.Hash.{bytes_of}
use Rattle.blake2_digest.specs.States.{Meaning}
use Rattle.blake2_digest.specs.Texts.{AreBytes, padded}
use Rattle.blake2.specs.States.{State}
use Rattle.blake2_state.specs.States.{named_key_size}

-- What saved states begin with: the name of the family in ASCII, and the version of the encoding,
-- which is 1.
abbrev pub saved_state_prefix : Family → List ℕ
saved_state_prefix blake2b = codes "BLAKE2b" ++ 1 ∷ []
saved_state_prefix blake2s = codes "BLAKE2s" ++ 1 ∷ []

-- The last-node flag as a byte.
abbrev pub flag_byte : Bool → ℕ
flag_byte on = if on then 1 else 0

-- The bytes of a state whose digests have `size` bytes: the heading, the chaining words, the words
-- that the run started from, the number of bytes of the blocks that were compressed, the size, the
-- number of pending bytes, the last-node flag, and the pending bytes, padded with zeros to a block.
-- Numbers of more than one byte are in little-endian order.
unfoldable pub encoding : Family → ℕ → State → List ℕ
encoding f size s =
    saved_state_prefix f ++ bytes_of f s.core.h ++ bytes_of f s.core.start
    ++ to_le_bytes w64 s.core.count
    ++ size ∷ length s.pending ∷ flag_byte s.core.last_node ∷ padded (block_bytes f) s.pending

-- The state returns digests of `size` bytes, and has no key. Its numbers have room in its fields.
pub record IsSavable (f : Family) (size : ℕ) (s : State) : Type 0 where
  pub least : 1 ≤ size
  pub most : size ≤ output_bytes f
  pub pending : length s.pending ≤ block_bytes f
  pub counted : s.core.count + length s.pending < 2 ^ 64
  pub keyless : named_key_size f s.core.start ≡ 0
  pub start : s.start_block ≡ []
  pub chain_length : length s.core.h ≡ 8
  pub chain_words : AreWords f s.core.h
  pub first_length : length s.core.start ≡ 8
  pub first_words : AreWords f s.core.start
  pub pending_bytes : AreBytes s.pending

-- The bytes are those of a saved state.
pub record IsSavedState (f : Family) (bytes : List ℕ) : Type 0 where
  pub size : ℕ
  pub state : State
  pub savable : IsSavable f size state
  pub is : encoding f size state ≡ bytes

-- The two states return the same digests, whatever they absorb, before a reset and after, and count
-- the same bytes.
pub record MeansTheSame {S : Type 0} (m : Meaning S) (old : S) (new : S) : Type 0 where
  pub future : (flag : Bool) (y : List ℕ) → m.future new flag y ≡ m.future old flag y
  pub started : (flag : Bool) (y : List ℕ) → m.started new flag y ≡ m.started old flag y
  pub last_node : m.last_node new ≡ m.last_node old
  pub count : m.count new ≡ m.count old
  pub start_count : m.start_count new ≡ m.start_count old
