-- The transcript of a run: its parameter words, and its steps without their chaining words. Section
-- numbers are those of RFC 7693.
use Rattle.std.specs.Prelude.{◌≡◌, ℕ, ◌+◌, ◌-◌, ◌*◌, ◌<◌, ◌≤◌, List, [], length, map}
use Rattle.std.specs.Prelude.{slice_index_or}
use Rattle.std.specs.List.{concat}
use Rattle.blake2_simd.specs.Family.{Family, block_bytes, output_bytes}
use Rattle.blake2_compress.specs.Hash.{Flags, inner, Input, input_flags, input_parameters}
use Rattle.blake2_compress.specs.Hash.{input_data, padded, block_count, parameter_words, Step}
use Rattle.blake2_compress.specs.Inputs.{Accepts, SameUpToTrailingZeros}

-- One compression by the arguments of F, except for the chaining words (3.2).
pub record Entry : Type 0 where
  pub block : List ℕ
  pub counter : ℕ
  pub flags : Flags

-- The default for an index that a list of entries does not have.
abbrev pub no_entry : Entry
no_entry = record { block = []; counter = 0; flags = inner }

-- The entry of a step.
abbrev pub entry : Step → Entry
entry s = record { block = s.block; counter = s.counter; flags = s.flags }

-- The step of an entry, with the chaining words h.
abbrev pub step_of_entry : List ℕ → Entry → Step
step_of_entry h e = record { chain = h; block = e.block; counter = e.counter; flags = e.flags }

-- The bytes of the blocks, in order.
abbrev pub joined_blocks : List Entry → List ℕ
joined_blocks entries = concat (map (λ (e : Entry). e.block) entries)

-- The words and the entries are the transcript of the input for a digest of this length, index by
-- index and without F (3.3). The words are the parameter words, and there is an entry for each
-- block. Before the last entry the counters are (i+1)·bb and the flags are off. The last entry has
-- the counted length and the input's flags. The blocks, joined, are the data followed by zeros.
pub record IsTranscript (f : Family) (words : List ℕ) (entries : List Entry) (size : ℕ) (a : Input)
    : Type 0 where
  pub parameters : words ≡ parameter_words f (input_parameters size a)
  pub number : length entries ≡ block_count f (length (input_data f a))
  pub below : (i : ℕ) (d : Entry) → i + 1 < length entries
      → ((slice_index_or entries i d).counter ≡ (i + 1) * block_bytes f)
      × ((slice_index_or entries i d).flags ≡ inner)
  pub ends : (d : Entry)
      → ((slice_index_or entries (length entries - 1) d).counter ≡ length (input_data f a))
      × ((slice_index_or entries (length entries - 1) d).flags ≡ input_flags a)
  pub blocks : joined_blocks entries ≡ padded (length entries * block_bytes f) (input_data f a)

-- ---- what a transcript is read as

-- The words and the entries are the transcript of this accepted input, for a digest of this length.
pub record DescribesAcceptedInput (f : Family) (words : List ℕ) (entries : List Entry) (size : ℕ)
    (a : Input)
    : Type 0 where
  pub fits : size ≤ output_bytes f
  pub accepted : Accepts f a
  pub is : IsTranscript f words entries size a

-- The words and the entries are the transcript of some accepted input, for some digest length.
abbrev pub DescribesSomeInput : Family → List ℕ → List Entry → Type 0
DescribesSomeInput f words entries =
    (size : ℕ) × (a : Input) × DescribesAcceptedInput f words entries size a

-- The words and the entries are the transcript of this input for this digest length, and of no
-- other length or input, except for zeros at the end of the salt or the personalization.
pub record DescribesOnlyThisInput (f : Family) (words : List ℕ) (entries : List Entry) (size : ℕ)
    (a : Input)
    : Type 0 where
  pub reads : DescribesAcceptedInput f words entries size a
  pub only : (other : ℕ) (b : Input) → DescribesAcceptedInput f words entries other b
      → (size ≡ other) × SameUpToTrailingZeros f a b

-- The law that a transcript determines the digest length and the input, except for zeros at the end
-- of the salt or the personalization.
abbrev pub TranscriptDeterminesInput : Family → Type 0
TranscriptDeterminesInput f = (words : List ℕ) (entries : List Entry) (size other : ℕ) (a b : Input)
    → DescribesAcceptedInput f words entries size a → DescribesAcceptedInput f words entries other b
    → (size ≡ other) × SameUpToTrailingZeros f a b
