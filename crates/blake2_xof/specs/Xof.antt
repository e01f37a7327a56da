-- BLAKE2X: BLAKE2Xb over BLAKE2b and BLAKE2Xs over BLAKE2s (the BLAKE2X document, and its reference
-- code). A root hash absorbs the message, and each block of the output is a hash of the root's
-- digest. One definition serves both families.
use Rattle.std.specs.Prelude.{ℕ, ◌+◌, ◌-◌, ◌*◌, ◌/◌, ◌^◌, ◌<◌, ◌≤◌, ◌≡◌, min, nat_eq, false}
use Rattle.std.specs.Prelude.{Bool, if◌then◌else◌, List, [], length, None}
use Rattle.std.specs.List.{flat_map, range_with_len}
use Rattle.blake2_simd.specs.Family.{Family, blake2b, blake2s, block_bytes, key_bytes, output_bytes}
use Rattle.blake2_simd.specs.Family.{salt_bytes}
use Rattle.blake2_compress.specs.Hash.{Input, Parameters, Tree, digest, input_data}
use Rattle.blake2_compress.specs.Hash.{input_parameters, parameter_block, sequential}
use Rattle.blake2_state.specs.ConstructorArguments.{key_unless_empty}

-- ---- the length of the output

-- The value of the XOF length that says that the length is not known in advance. The field has 32
-- bits in BLAKE2Xb and 16 in BLAKE2Xs, and all of them are on (the BLAKE2X document, on unknown
-- lengths).
abbrev pub unknown_length : Family → ℕ
unknown_length blake2b = 2 ^ 32 - 1
unknown_length blake2s = 2 ^ 16 - 1

-- The number of bytes of the output with this XOF length. If it is not known in advance, 2^32
-- blocks can be read, as many as there are offsets for them.
abbrev pub output_length : Family → ℕ → ℕ
output_length f n = if nat_eq n (unknown_length f) then 2 ^ 32 * output_bytes f else n

-- The number of blocks in n bytes of output, the last of which may be shorter.
abbrev pub output_block_count : Family → ℕ → ℕ
output_block_count f n = (n + (output_bytes f - 1)) / output_bytes f

-- The number of bytes of block i: those of the longest digest, or what is left of the output.
abbrev pub block_size : Family → ℕ → ℕ → ℕ
block_size f n i = min (output_bytes f) (output_length f n - i * output_bytes f)

-- ---- the parameters

-- What an output is made with: the XOF length, the key (no bytes mean no key), the salt and the
-- personalization.
pub record Settings : Type 0 where
  pub xof_length : ℕ
  pub key : List ℕ
  pub salt : List ℕ
  pub persona : List ℕ

-- The settings with these values, in this order.
abbrev pub settings : ℕ → List ℕ → List ℕ → List ℕ → Settings
settings xof_length key salt persona = record {
  xof_length = xof_length;
  key = key;
  salt = salt;
  persona = persona;
}

-- The family accepts the settings: the output is not empty, and its length fits its field. Key,
-- salt and personalization are within the limits of the family (RFC 7693, 2.1; the BLAKE2 document,
-- 2.8).
pub record AdmitsXof (f : Family) (a : Settings) : Type 0 where
  pub some : 1 ≤ a.xof_length
  pub xof_length : a.xof_length ≤ unknown_length f
  pub key : length a.key ≤ key_bytes f
  pub salt : length a.salt ≤ salt_bytes f
  pub persona : length a.persona ≤ salt_bytes f

-- The field of the node offset, which has the XOF length in its upper half, for block i.
abbrev pub node_offset_field : ℕ → ℕ → ℕ
node_offset_field n i = i + n * 2 ^ 32

-- The tree parameters of the root: those of a sequential hash, with the XOF length.
abbrev pub root_tree_parameters : ℕ → Tree
root_tree_parameters n = record sequential { node_offset = n * 2 ^ 32 }

-- The tree parameters of block i: fanout and depth are 0, and a leaf and an inner node have the
-- length of the longest digest.
abbrev pub block_tree_parameters : Family → ℕ → ℕ → Tree
block_tree_parameters f n i = record {
  fanout = 0;
  depth = 0;
  leaf_length = output_bytes f;
  node_offset = node_offset_field n i;
  node_depth = 0;
  inner_length = output_bytes f;
}

-- ---- the output

-- The input of the root hash of a message.
abbrev pub root_hash_input : Settings → List ℕ → Input
root_hash_input a message = record {
  salt = a.salt;
  persona = a.persona;
  key = key_unless_empty a.key;
  tree = root_tree_parameters a.xof_length;
  last_node = false;
  message = message;
}

-- The parameter block of the root hash.
abbrev pub root_parameter_block : Family → Settings → List ℕ
root_parameter_block f a = parameter_block f (input_parameters (output_bytes f)
    (root_hash_input a []))

-- The data of the root hash: the key block and the message (RFC 7693, 3.3).
abbrev pub root_data : Family → Settings → List ℕ → List ℕ
root_data f a message = input_data f (root_hash_input a message)

-- H0, the root hash: the longest digest of the family.
abbrev pub root_hash : Family → Settings → List ℕ → List ℕ
root_hash f a message = digest f (output_bytes f) (root_hash_input a message)

-- The input of block i, whose message is the root hash. No block has a key.
abbrev pub block_input : Family → Settings → List ℕ → ℕ → Input
block_input f a root i = record {
  salt = a.salt;
  persona = a.persona;
  key = None;
  tree = block_tree_parameters f a.xof_length i;
  last_node = false;
  message = root;
}

-- The parameters of block i.
abbrev pub block_parameters : Family → Settings → ℕ → Parameters
block_parameters f a i = input_parameters (block_size f a.xof_length i) (block_input f a [] i)

-- Block i of the output.
unfoldable pub output_block : Family → Settings → List ℕ → ℕ → List ℕ
output_block f a root i = digest f (block_size f a.xof_length i) (block_input f a root i)

-- The output for this root hash: its blocks, joined.
unfoldable pub xof_output : Family → Settings → List ℕ → List ℕ
xof_output f a root =
    flat_map (output_block f a root)
    (range_with_len 0 (output_block_count f (output_length f a.xof_length)))

-- The output for a message.
abbrev pub xof : Family → Settings → List ℕ → List ℕ
xof f a message = xof_output f a (root_hash f a message)

-- The same as a function of a last-node flag too, which changes nothing.
abbrev pub outputs : Family → Settings → Bool → List ℕ → List ℕ
outputs f a last_node message = xof f a message

-- The length of the output is known in advance.
abbrev pub IsKnownLength : Family → ℕ → Type 0
IsKnownLength f n = n < unknown_length f

-- ---- keys derived from a key

-- The key of n bytes that is derived from a key for a context: the output of the context under the
-- key.
abbrev pub derived_key : Family → List ℕ → List ℕ → ℕ → List ℕ
derived_key f key context n = xof f (settings n key [] []) context

-- A key of n bytes can be derived: there is a key within the limits of the family, the length is
-- one of an output, and context and key block have fewer than 2^64 bytes.
pub record CanDeriveKey (f : Family) (key context : List ℕ) (n : ℕ) : Type 0 where
  pub some_key : 1 ≤ length key
  pub fits : length key ≤ key_bytes f
  pub some : 1 ≤ n
  pub known : IsKnownLength f n
  pub counted : block_bytes f + length context < 2 ^ 64

-- The law that two derivations hash the same only if they have the same key, context and length.
-- The parameter block and the data determine what the root hash compresses.
abbrev pub DerivationsDiffer : Family → Type 0
DerivationsDiffer f = (key key' context context' : List ℕ) (n n' : ℕ)
    → CanDeriveKey f key context n → CanDeriveKey f key' context' n'
    → root_parameter_block f (settings n key [] [])
    ≡ root_parameter_block f (settings n' key' [] [])
    → root_data f (settings n key [] []) context ≡ root_data f (settings n' key' [] []) context'
    → (key ≡ key') × (context ≡ context') × (n ≡ n')
