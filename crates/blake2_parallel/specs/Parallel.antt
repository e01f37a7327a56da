-- BLAKE2bp and BLAKE2sp: trees of two levels with a fixed number of leaves, among which a message
-- is dealt out block by block (the BLAKE2 document, "Parallel hashing", and its reference code).
-- One definition serves both: it is over the family. The document has no salt and no
-- personalization for them. Here they are in the parameter block of each node, as in any tree of
-- its section 2.10.
use Rattle.std.specs.Prelude.{ℕ, ◌+◌, ◌-◌, ◌*◌, ◌/◌, ◌≤◌, Bool, true, nat_eq, List, [], ◌∷◌, ◌++◌}
use Rattle.std.specs.Prelude.{length, take}
use Rattle.std.specs.List.{flat_map, range_with_len}
use Rattle.blake2_simd.specs.Family.{Family, blake2b, blake2s, block_bytes, key_bytes, output_bytes}
use Rattle.blake2_simd.specs.Family.{salt_bytes}
use Rattle.blake2_compress.specs.Hash.{Parameters, Tree, bytes_of, final, last_chain, padded, start}
use Rattle.blake2_compress.specs.MessagePieces.{piece}

-- ---- how a message is dealt out

-- P, the number of leaves: 4 in BLAKE2bp and 8 in BLAKE2sp.
abbrev pub leaves : Family → ℕ
leaves blake2b = 4
leaves blake2s = 8

-- The number of bytes of a stripe, which has one block for each leaf.
abbrev pub stripe_bytes : Family → ℕ
stripe_bytes f = leaves f * block_bytes f

-- The number of stripes in n bytes, the last of which may be shorter: ceil(n / (P·bb)).
abbrev pub stripe_count : Family → ℕ → ℕ
stripe_count f n = (n + (stripe_bytes f - 1)) / stripe_bytes f

-- What leaf j gets of a message: its blocks j, P + j, 2·P + j and so on, joined.
unfoldable pub leaf_message : Family → List ℕ → ℕ → List ℕ
leaf_message f message j =
    flat_map (λ i. piece (block_bytes f) message (i * leaves f + j))
    (range_with_len 0 (stripe_count f (length message)))

-- ---- the nodes

-- What a hash is made with: the length of its digest, its key (no bytes mean no key), its salt and
-- its personalization.
pub record Settings : Type 0 where
  pub size : ℕ
  pub key : List ℕ
  pub salt : List ℕ
  pub persona : List ℕ

-- The settings with these values, in this order.
abbrev pub settings : ℕ → List ℕ → List ℕ → List ℕ → Settings
settings size key salt persona = record {
  size = size;
  key = key;
  salt = salt;
  persona = persona;
}

-- The settings are within the limits of the family (RFC 7693, 2.1; the BLAKE2 document, 2.8).
pub record SettingsFit (f : Family) (a : Settings) : Type 0 where
  pub size : a.size ≤ output_bytes f
  pub key : length a.key ≤ key_bytes f
  pub salt : length a.salt ≤ salt_bytes f
  pub persona : length a.persona ≤ salt_bytes f

-- The settings are those of a hash: they are within the limits, and the digest is not empty.
pub record AdmitsParallel (f : Family) (a : Settings) : Type 0 where
  pub some : 1 ≤ a.size
  pub fits : SettingsFit f a

-- The tree parameters of a node (the BLAKE2 document, 2.8 and 2.10): the fanout is P, there are two
-- levels, a leaf has no limit, and the digests of leaves are as long as the longest of the family.
abbrev pub parallel_tree_parameters : Family → ℕ → ℕ → Tree
parallel_tree_parameters f offset depth = record {
  fanout = leaves f;
  depth = 2;
  leaf_length = 0;
  node_offset = offset;
  node_depth = depth;
  inner_length = output_bytes f;
}

-- The parameters of a node. All nodes name the length of the hash's digest and that of the key.
abbrev pub parallel_node_parameters : Family → Settings → ℕ → ℕ → Parameters
parallel_node_parameters f a offset depth = record {
  size = a.size;
  key_size = length a.key;
  salt = a.salt;
  persona = a.persona;
  tree = parallel_tree_parameters f offset depth;
}

-- The whole output of a node that starts from h: the bytes of its last h.
abbrev pub node_output_from : Family → List ℕ → ℕ → List ℕ → Bool → List ℕ
node_output_from f h count bytes last = bytes_of f (last_chain f h count bytes (final last))

-- The bytes before each leaf's part of the message: the key padded with zeros to a block, or no
-- bytes without a key.
abbrev pub leaf_key_block : Family → List ℕ → List ℕ
leaf_key_block f [] = []
leaf_key_block f (x ∷ key) = padded (block_bytes f) (x ∷ key)

-- The number of bytes that a key counts for: a block in each leaf.
abbrev pub parallel_key_count : Family → List ℕ → ℕ
parallel_key_count f key = leaves f * length (leaf_key_block f key)

-- The whole output of leaf j. The last leaf has the last-node flag.
abbrev pub leaf_output : Family → Settings → List ℕ → ℕ → List ℕ
leaf_output f a message j =
    node_output_from f (start f (parallel_node_parameters f a j 0)) 0
    (leaf_key_block f a.key ++ leaf_message f message j)
    (nat_eq (j + 1) (leaves f))

-- The digest of a message: the first bytes of the root's output, which hashes the outputs of the
-- leaves. The root has the last-node flag, and no key block.
unfoldable pub parallel_digest : Family → Settings → List ℕ → List ℕ
parallel_digest f a message =
    take a.size (node_output_from f (start f (parallel_node_parameters f a 0 1)) 0
    (flat_map (leaf_output f a message) (range_with_len 0 (leaves f))) true)

-- The same as a function of a last-node flag too, which changes nothing: the tree is fixed.
abbrev pub digests : Family → Settings → Bool → List ℕ → List ℕ
digests f a last_node message = parallel_digest f a message
