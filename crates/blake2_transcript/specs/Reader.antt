-- What shows that words and entries are the transcript of an input, and what they say of it.
-- Section numbers are those of RFC 7693.
use Rattle.std.specs.Prelude.{◌≡◌, ℕ, zero, suc, ◌+◌, ◌-◌, ◌*◌, ◌^◌, ◌<◌, ◌≤◌, List, length, take}
use Rattle.std.specs.Prelude.{drop, slice_index, slice_index_or, Option, Some, None, IsTrue}
use Rattle.blake2_simd.specs.Family.{Family, block_bytes, salt_bytes}
use Rattle.blake2_compress.specs.Hash.{AreBytes, Input, inner, block_count, padded, Fits}
use Rattle.blake2_compress.specs.Hash.{Parameters, parameter_words}
use Rattle.blake2_transcript.specs.Transcript.{Entry, joined_blocks, no_entry}

-- ---- the entries of a run

-- The last entry.
abbrev pub last_entry : List Entry → Entry
last_entry entries = slice_index_or entries (length entries - 1) no_entry

-- The number of counted bytes, which is the counter of the last entry.
abbrev pub described_count : List Entry → ℕ
described_count entries = (last_entry entries).counter

-- The entry at index i is one that others follow: its counter is (i+1)·bb, and its flags are off.
pub record IsInnerEntry (f : Family) (i : ℕ) (e : Entry) : Type 0 where
  pub counter : e.counter ≡ (i + 1) * block_bytes f
  pub flags : e.flags ≡ inner

-- Every entry is one that others follow.
abbrev pub AreInnerEntries : Family → List Entry → Type 0
AreInnerEntries f entries =
    (i : ℕ) → i < length entries → IsInnerEntry f i (slice_index_or entries i no_entry)

-- The entry is the last of a run, after `before` others.
pub record EndsRun (f : Family) (before : ℕ) (e : Entry) : Type 0 where
  pub number : before + 1 ≡ block_count f e.counter
  pub last : IsTrue e.flags.last

-- The list xs is zero from index n on.
abbrev pub IsZeroFrom : ℕ → List ℕ → Type 0
IsZeroFrom n xs = (i : ℕ) → n ≤ i → slice_index xs i ≡ 0

-- The entries are those of a run over some data (3.3).
pub record IsRun (f : Family) (entries : List Entry) : Type 0 where
  pub number : length entries ≡ block_count f (described_count entries)
  pub below : (i : ℕ) → i + 1 < length entries
      → IsInnerEntry f i (slice_index_or entries i no_entry)
  pub last : IsTrue (last_entry entries).flags.last
  pub zeros : IsZeroFrom (described_count entries) (joined_blocks entries)

-- The data begins with the block of a key of n bytes: a whole block is counted, and it is zero
-- after n bytes (3.3).
pub record HasKey (f : Family) (n : ℕ) (entries : List Entry) : Type 0 where
  pub counted : block_bytes f ≤ described_count entries
  pub zeros : (i : ℕ) → n ≤ i → i < block_bytes f → slice_index (joined_blocks entries) i ≡ 0

-- ---- words and entries together

-- The words and the entries are the transcript of some input with these parameters: the parameters
-- fit and have these words, the entries are those of a run, and a key has its block.
pub record IsReadable (f : Family) (p : Parameters) (ws : List ℕ) (es : List Entry) : Type 0 where
  pub fits : Fits f p
  pub words_are : ws ≡ parameter_words f p
  pub run : IsRun f es
  pub key : 0 < p.key_size → HasKey f p.key_size es

-- The data of the entries: the counted bytes of their blocks.
abbrev pub described_data : List Entry → List ℕ
described_data entries = take (described_count entries) (joined_blocks entries)

-- The key of n bytes at the beginning of the data z, or none if n is 0.
abbrev pub described_key : ℕ → List ℕ → Option (List ℕ)
described_key zero z = None
described_key (suc n) z = Some (take (suc n) z)

-- The message in the data z: the bytes after the block of a key of n bytes, or all if n is 0.
abbrev pub described_message : Family → ℕ → List ℕ → List ℕ
described_message f zero z = z
described_message f (suc n) z = drop (block_bytes f) z

-- The input that the parameters and the entries describe. Its salt and personalization are padded
-- with zeros.
abbrev pub described_input : Family → Parameters → List Entry → Input
described_input f p entries = record {
  salt = padded (salt_bytes f) p.salt;
  persona = padded (salt_bytes f) p.persona;
  key = described_key p.key_size (described_data entries);
  tree = p.tree;
  last_node = (last_entry entries).flags.last_node;
  message = described_message f p.key_size (described_data entries);
}

-- ---- what the types of the code promise

-- The block of an entry consists of bb bytes.
pub record HasWholeBlock (f : Family) (e : Entry) : Type 0 where
  pub length_is : length e.block ≡ block_bytes f
  pub bytes : AreBytes e.block

-- The block of every entry consists of bb bytes.
abbrev pub AreWholeBlocks : Family → List Entry → Type 0
AreWholeBlocks f entries =
    (i : ℕ) → i < length entries → HasWholeBlock f (slice_index_or entries i no_entry)

-- The blocks are whole, and the last counter is below 2^64.
pub record AreWellFormedEntries (f : Family) (entries : List Entry) : Type 0 where
  pub whole : AreWholeBlocks f entries
  pub counter : described_count entries < 2 ^ 64
