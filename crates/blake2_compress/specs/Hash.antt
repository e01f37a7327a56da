-- BLAKE2b and BLAKE2s as functions on lists of numbers. Section numbers are those of RFC 7693,
-- unless the BLAKE2 document is named.
use Rattle.std.specs.Prelude.{ℕ, zero, suc, ◌+◌, ◌-◌, ◌*◌, ◌/◌, ◌%◌, ◌^◌, ◌<◌, ◌≤◌, min, nat_eq}
use Rattle.std.specs.Prelude.{Bool, true, false, if◌then◌else◌, List, [], ◌∷◌, ◌++◌, length, map}
use Rattle.std.specs.Prelude.{take, drop, replicate, bit_xor, slice_index_or, Option, Some, None}
use Rattle.std.specs.Int.{from_le_bytes, to_le_bytes, w32, w64}
use Rattle.std.specs.List.{flat_map, range_with_len}
use mir.Val.{bits}
use Rattle.blake2_simd.specs.Blocks.{chunk_count}
pub use Rattle.blake2_simd.specs.Texts.{AreBytes}
unfoldable pub use Rattle.blake2_simd.specs.Texts.{padded}
use Rattle.blake2_simd.specs.Family.{Family, word, word_bytes, block_bytes, rounds, key_bytes}
use Rattle.blake2_simd.specs.Family.{output_bytes, salt_bytes, offset_bytes, reserved_bytes, iv}
use Rattle.blake2_simd.specs.Family.{sigma}
use Rattle.blake2_simd.specs.Round.{round}

-- ---- words and bytes

-- The first n words of the bytes xs, in little-endian order (2.4).
unfoldable pub words_of : Family → ℕ → List ℕ → List ℕ
words_of f zero xs = []
words_of f (suc n) xs =
    from_le_bytes (word f) (take (word_bytes f) xs) ∷ words_of f n (drop (word_bytes f) xs)

-- The bytes of the words, in little-endian order (2.4).
unfoldable pub bytes_of : Family → List ℕ → List ℕ
bytes_of f ws = flat_map (to_le_bytes (word f)) ws

-- Each word of xs xored with the word of ys at the same index (2.3).
unfoldable pub xor_words : List ℕ → List ℕ → List ℕ
xor_words (x ∷ xs) (y ∷ ys) = bit_xor x y ∷ xor_words xs ys
xor_words _ _ = []

-- ---- the compression function

-- v after the first n rounds, with the words m of the block (3.2).
unfoldable pub after_rounds : Family → List ℕ → List ℕ → ℕ → List ℕ
after_rounds f v m zero = v
after_rounds f v m (suc n) = round f (after_rounds f v m n) m (slice_index_or sigma (n % 10) [])

-- The flags of a compression. `last` is f, on for the last block (3.2). `last_node` is f1, on for
-- the last block of the last node of its level in a tree of hashes (the BLAKE2 document, 2.10).
pub record Flags : Type 0 where
  pub last : Bool
  pub last_node : Bool

-- The flags f and f1, in this order.
abbrev pub flags : Bool → Bool → Flags
flags last last_node = record { last = last; last_node = last_node }

-- The flags of a block that others follow: both are off.
abbrev pub inner : Flags
inner = flags false false

-- The flags of the last block: f is on, and f1 is the last-node flag.
abbrev pub final : Bool → Flags
final last_node = flags true last_node

-- v before the first round, for the counter t and the flags (3.2; the BLAKE2 document, 2.10).
unfoldable pub before_rounds : Family → List ℕ → ℕ → Flags → List ℕ
before_rounds f h t flags =
    let w = bits (word f) in
    let last = if flags.last then 2 ^ w - 1 else 0 in
    let last_node = if flags.last_node then 2 ^ w - 1 else 0 in
    h ++ xor_words (iv f) (0 ∷ 0 ∷ 0 ∷ 0 ∷ t % 2 ^ w ∷ t / 2 ^ w ∷ last ∷ last_node ∷ [])

-- F, the compression function: h after a block, for the counter t and the flags (3.2).
unfoldable pub compress : Family → List ℕ → List ℕ → ℕ → Flags → List ℕ
compress f h block t flags =
    let v = after_rounds f (before_rounds f h t flags) (words_of f 16 block) (rounds f) in
    xor_words (xor_words h (take 8 v)) (drop 8 v)

-- ---- the parameter block (2.5; the BLAKE2 document, 2.8)

-- The tree parameters of a hash: the shape of a tree of hashes, and the position of the node in it
-- (the BLAKE2 document, 2.8 and 2.10).
pub record Tree : Type 0 where
  pub fanout : ℕ
  pub depth : ℕ
  pub leaf_length : ℕ
  pub node_offset : ℕ
  pub node_depth : ℕ
  pub inner_length : ℕ

-- The tree parameters of a sequential hash, which is the whole tree: fanout and depth are 1 (2.5).
abbrev pub sequential : Tree
sequential = record {
  fanout = 1;
  depth = 1;
  leaf_length = 0;
  node_offset = 0;
  node_depth = 0;
  inner_length = 0;
}

-- Each number fits its field of the parameter block, the depth is at least 1, and the digest of an
-- inner node is at most as long as the longest digest of the family (the BLAKE2 document, 2.8 and
-- 2.10).
pub record AdmitsTree (f : Family) (t : Tree) : Type 0 where
  pub fanout : t.fanout < 2 ^ 8
  pub depth_given : 1 ≤ t.depth
  pub depth : t.depth < 2 ^ 8
  pub leaf_length : t.leaf_length < 2 ^ 32
  pub node_offset : t.node_offset < 2 ^ (8 * offset_bytes f)
  pub node_depth : t.node_depth < 2 ^ 8
  pub inner_length : t.inner_length ≤ output_bytes f

-- The contents of a parameter block: the lengths of the digest and of the key in bytes, the salt,
-- the personalization and the tree parameters (2.5; the BLAKE2 document, 2.8).
pub record Parameters : Type 0 where
  pub size : ℕ
  pub key_size : ℕ
  pub salt : List ℕ
  pub persona : List ℕ
  pub tree : Tree

-- The parameters of a sequential hash (2.5).
abbrev pub parameters_of : ℕ → ℕ → List ℕ → List ℕ → Parameters
parameters_of size key_size salt persona = record {
  size = size;
  key_size = key_size;
  salt = salt;
  persona = persona;
  tree = sequential;
}

-- The parameters are within the limits of the family (2.1; the BLAKE2 document, 2.8).
pub record Fits (f : Family) (p : Parameters) : Type 0 where
  pub size : p.size ≤ output_bytes f
  pub key_size : p.key_size ≤ key_bytes f
  pub salt : length p.salt ≤ salt_bytes f
  pub persona : length p.persona ≤ salt_bytes f
  pub tree : AdmitsTree f p.tree

-- The bytes of the parameter block, 64 for BLAKE2b and 32 for BLAKE2s: numbers are in little-endian
-- order, and salt and personalization are padded with zeros (2.5; the BLAKE2 document, 2.8).
unfoldable pub parameter_block : Family → Parameters → List ℕ
parameter_block f p =
    p.size ∷ p.key_size ∷ p.tree.fanout ∷ p.tree.depth ∷ []
    ++ to_le_bytes w32 p.tree.leaf_length
    ++ take (offset_bytes f) (to_le_bytes w64 p.tree.node_offset)
    ++ p.tree.node_depth ∷ p.tree.inner_length ∷ []
    ++ replicate (reserved_bytes f) 0
    ++ padded (salt_bytes f) p.salt ++ padded (salt_bytes f) p.persona

-- p[0..7], the eight words of the parameter block (2.5).
unfoldable pub parameter_words : Family → Parameters → List ℕ
parameter_words f p = words_of f 8 (parameter_block f p)

-- h[0..7] before the first block (3.3).
unfoldable pub start : Family → Parameters → List ℕ
start f p = xor_words (iv f) (parameter_words f p)

-- ---- the data and its blocks

-- kk, the length of the key in bytes, or 0 without a key (2.1).
abbrev pub key_size : Option (List ℕ) → ℕ
key_size None = 0
key_size (Some key) = length key

-- The bytes before the message: the key padded with zeros to a block, or no bytes without a key
-- (3.3).
unfoldable pub key_block : Family → Option (List ℕ) → List ℕ
key_block f None = []
key_block f (Some key) = padded (block_bytes f) key

-- The data, which is cut into blocks: the key block and the message (3.3).
abbrev pub data_bytes : Family → Option (List ℕ) → List ℕ → List ℕ
data_bytes f key message = key_block f key ++ message

-- dd, the number of blocks in n bytes, at least one (3.3).
abbrev pub block_count : Family → ℕ → ℕ
block_count f n = chunk_count (block_bytes f) n

-- The first n blocks of z, bb bytes each, with zeros after the end of z (3.3).
unfoldable pub first_blocks : Family → ℕ → List ℕ → List (List ℕ)
first_blocks f zero z = []
first_blocks f (suc n) z =
    padded (block_bytes f) (take (block_bytes f) z) ∷ first_blocks f n (drop (block_bytes f) z)

-- d[0..dd-1], the blocks of z (3.3).
abbrev pub blocks : Family → List ℕ → List (List ℕ)
blocks f z = first_blocks f (block_count f (length z)) z

-- ---- the run over the blocks (3.3)

-- h after the first i blocks of d, none of them final, if c bytes were counted before (3.3).
unfoldable pub chain : Family → List ℕ → ℕ → List (List ℕ) → ℕ → List ℕ
chain f h c d zero = h
chain f h c d (suc i) =
    compress f (chain f h c d i) (slice_index_or d i []) (c + (i + 1) * block_bytes f) inner

-- h after the last block of z, which is compressed under these flags (3.3).
unfoldable pub last_chain : Family → List ℕ → ℕ → List ℕ → Flags → List ℕ
last_chain f h c z flags =
    let n = block_count f (length z) - 1 in
    compress f (chain f h c (blocks f z) n) (slice_index_or (blocks f z) n []) (c + length z) flags

-- The input of a hash, except for the length of the digest.
pub record Input : Type 0 where
  pub salt : List ℕ
  pub persona : List ℕ
  pub key : Option (List ℕ)
  pub tree : Tree
  pub last_node : Bool
  pub message : List ℕ

-- The data of an input, which is cut into blocks (3.3).
abbrev pub input_data : Family → Input → List ℕ
input_data f a = data_bytes f a.key a.message

-- The parameters of an input, for a digest of `size` bytes (2.5).
abbrev pub input_parameters : ℕ → Input → Parameters
input_parameters size a = record {
  size = size;
  key_size = key_size a.key;
  salt = a.salt;
  persona = a.persona;
  tree = a.tree;
}

-- The flags of an input's last compression.
abbrev pub input_flags : Input → Flags
input_flags a = final a.last_node

-- h[0..7] before the first block of an input (3.3).
abbrev pub input_start : Family → ℕ → Input → List ℕ
input_start f size a = start f (input_parameters size a)

-- The BLAKE2 digest of an input: the first `size` bytes of the last h (3.3).
unfoldable pub digest : Family → ℕ → Input → List ℕ
digest f size a =
    take size (bytes_of f (last_chain f (input_start f size a) 0 (input_data f a) (input_flags a)))

-- ---- the steps

-- One compression, by the arguments of F (3.2).
pub record Step : Type 0 where
  pub chain : List ℕ
  pub block : List ℕ
  pub counter : ℕ
  pub flags : Flags

-- The chaining words that F returns for a step (3.2).
abbrev pub output : Family → Step → List ℕ
output f s = compress f s.chain s.block s.counter s.flags

-- Step i of the run over z from h: the chaining words h[i], the block d[i], the counter
-- min((i+1)·bb, length of z), and these flags if it is the last step (3.3).
abbrev pub step : Family → List ℕ → List ℕ → Flags → ℕ → Step
step f h z flags i = record {
  chain = chain f h 0 (blocks f z) i;
  block = slice_index_or (blocks f z) i [];
  counter = min ((i + 1) * block_bytes f) (length z);
  flags = if nat_eq (i + 1) (block_count f (length z)) then flags else inner;
}

-- All steps of an input's run, in order (3.3).
unfoldable pub steps : Family → ℕ → Input → List Step
steps f size a =
    map (step f (input_start f size a) (input_data f a) (input_flags a))
    (range_with_len 0 (block_count f (length (input_data f a))))
