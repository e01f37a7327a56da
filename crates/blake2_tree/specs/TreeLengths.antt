-- The lengths that a tree accepts.
use Rattle.std.specs.Prelude.{ℕ, ◌≤◌, length}
use Rattle.blake2_tree.specs.TreeRoot.{TreeParameters}

-- The lengths of a tree, in bytes: those of the root, the salt, the personalization and a leaf.
pub record TreeLengths : Type 0 where
  pub root : ℕ
  pub salt : ℕ
  pub persona : ℕ
  pub leaf : ℕ

-- The lengths of a tree with these parameters and a root of `size` bytes.
abbrev pub tree_lengths_of : ℕ → TreeParameters → TreeLengths
tree_lengths_of size p = record {
  root = size;
  salt = length p.salt;
  persona = length p.persona;
  leaf = p.leaf_length;
}

-- The root, the salt, the personalization and a leaf have lengths that a tree accepts.
pub record AreAcceptedTreeLengths (l : TreeLengths) : Type 0 where
  pub least : 1 ≤ l.root
  pub most : l.root ≤ 64
  pub salt_fits : l.salt ≤ 16
  pub persona_fits : l.persona ≤ 16
  pub some_leaf : 1 ≤ l.leaf
