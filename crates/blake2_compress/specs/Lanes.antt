-- Several messages side by side.
use Rattle.std.specs.Prelude.{◌≡◌, ℕ, zero, suc, ◌+◌, ◌*◌, ◌<◌, List, [], false, length, map}
use Rattle.std.specs.Prelude.{slice_index_or, None}
use Rattle.std.specs.Borrow.{Bor}
use Rattle.blake2_compress.specs.declared.params.Tree as GivenTree
use Rattle.blake2_compress.specs.declared.inputs.Input as GivenInput
use Rattle.blake2_compress.specs.declared.compress.Flags as GivenFlags
use Rattle.blake2_simd.specs.Family.{Family, block_bytes}
use Rattle.blake2_compress.specs.Hash.{Flags, Input, compress, input_data}
use Rattle.blake2_compress.specs.Inputs.{Accepts}
use Rattle.blake2_compress.specs.Views.{given_flags, input_of}

-- The bytes that each of several references points to.
abbrev pub texts : List (Bor (List ℕ)) → List (List ℕ)
texts = map (λ b. b.now)

-- The blocks that each of several references points to.
abbrev pub block_lists : List (Bor (List (List ℕ))) → List (List (List ℕ))
block_lists = map (λ b. b.now)

-- The chaining words after the first n of these blocks, all under the same flags. With the first
-- block `counter` bytes are counted, and with each later one a block's bytes more.
unfoldable pub after_blocks : Family → List ℕ → List (List ℕ) → ℕ → Flags → ℕ → List ℕ
after_blocks f h blocks counter flags zero = h
after_blocks f h blocks counter flags (suc i) =
    compress f (after_blocks f h blocks counter flags i) (slice_index_or blocks i [])
    (counter + i * block_bytes f) flags

-- The default for an index that a list of inputs does not have.
abbrev pub no_input : GivenInput.Input
no_input =
    let nothing : Bor (List ℕ) = record { ref_ptr = (0, 0); now = [] } in
    let nowhere : GivenTree.Tree = record {
      fanout = 0;
      depth = 0;
      leaf_length = 0;
      node_offset = 0;
      node_depth = 0;
      inner_length = 0;
    } in
    record {
      salt = nothing;
      persona = nothing;
      key = None;
      tree = nowhere;
      last_node = false;
      message = nothing;
    }

-- Input j of several.
abbrev pub input_at : List GivenInput.Input → ℕ → Input
input_at inputs j = input_of (slice_index_or inputs j no_input)

-- The flags of message j, if each of several messages has its own.
abbrev pub flags_at : List GivenFlags.Flags → ℕ → Flags
flags_at flags j = given_flags (slice_index_or flags j (record { last = false; last_node = false }))

-- n inputs can be hashed in parallel: each is accepted, and all have the same number of counted
-- bytes.
pub record AcceptsAtOnce (f : Family) (n : ℕ) (inputs : List GivenInput.Input) : Type 0 where
  pub accepted : (j : ℕ) → j < n → Accepts f (input_at inputs j)
  pub same_count : (j : ℕ) → j < n → length (input_data f (input_at inputs j))
      ≡ length (input_data f (input_at inputs 0))
