-- The tree of two levels over BLAKE2b, in the tree parameters of the BLAKE2 document (2.8 and
-- 2.10). A message is cut into leaves of one length, the last of which may be shorter. Each leaf is
-- hashed, and the root is the hash of the leaves' digests. The values of the tree parameters are
-- this project's own choice.
use Rattle.std.specs.Prelude.{ℕ, ◌+◌, nat_eq, Bool, true, List, length, None}
use Rattle.std.specs.List.{flat_map, range_with_len}
use Rattle.blake2_simd.specs.Family.{blake2b}
use Rattle.blake2_compress.specs.Hash.{Tree, Input, digest}
use Rattle.blake2_compress.specs.MessagePieces.{piece_count, piece}

-- What the nodes of a tree share: the salt, the personalization, and the length of a leaf in bytes.
pub record TreeParameters : Type 0 where
  pub salt : List ℕ
  pub persona : List ℕ
  pub leaf_length : ℕ

-- The record of a salt, a personalization and a leaf length.
abbrev pub tree_parameters : List ℕ → List ℕ → ℕ → TreeParameters
tree_parameters salt persona leaf_length =
    record { salt = salt; persona = persona; leaf_length = leaf_length }

-- ---- the leaves of a message

-- The number of leaves in n bytes: ceil(n / size), and at least one.
abbrev pub leaf_count : ℕ → ℕ → ℕ
leaf_count = piece_count

-- Leaf i: bytes i·size to (i+1)·size of the message, or up to its end.
abbrev pub leaf : ℕ → List ℕ → ℕ → List ℕ
leaf = piece

-- ---- the nodes

-- The tree parameters of a node (the BLAKE2 document, 2.8 and 2.10): the fanout 0 is unlimited,
-- there are two levels, and the digests of inner nodes have 64 bytes.
abbrev pub node_tree_parameters : ℕ → ℕ → ℕ → Tree
node_tree_parameters leaf_length offset depth = record {
  fanout = 0;
  depth = 2;
  leaf_length = leaf_length;
  node_offset = offset;
  node_depth = depth;
  inner_length = 64;
}

-- The input of the node at this offset and depth, with its last-node flag and its bytes. It has no
-- key.
abbrev pub node : TreeParameters → ℕ → ℕ → Bool → List ℕ → Input
node p offset depth last bytes = record {
  salt = p.salt;
  persona = p.persona;
  key = None;
  tree = node_tree_parameters p.leaf_length offset depth;
  last_node = last;
  message = bytes;
}

-- Leaf i of a message as an input: its depth is 0, and only the last leaf has the last-node flag.
abbrev pub leaf_input : TreeParameters → List ℕ → ℕ → Input
leaf_input p message i =
    node p i 0 (nat_eq (i + 1) (leaf_count p.leaf_length (length message)))
    (leaf p.leaf_length message i)

-- The digests of the leaves of a message, 64 bytes each, joined in order.
unfoldable pub leaf_digests : TreeParameters → List ℕ → List ℕ
leaf_digests p message =
    flat_map (λ i. digest blake2b 64 (leaf_input p message i))
    (range_with_len 0 (leaf_count p.leaf_length (length message)))

-- The root over these digests as an input: its depth is 1, its offset is 0, and its last-node flag
-- is on.
abbrev pub root_input_over_digests : TreeParameters → List ℕ → Input
root_input_over_digests p digests = node p 0 1 true digests

-- The root of a message as an input, over the digests of its leaves.
abbrev pub root_input : TreeParameters → List ℕ → Input
root_input p message = root_input_over_digests p (leaf_digests p message)

-- The digest of the tree: that of its root, in `size` bytes.
unfoldable pub tree_root : ℕ → TreeParameters → List ℕ → List ℕ
tree_root size p message = digest blake2b size (root_input p message)
