-- A tree that absorbs a message, by the meaning of its nodes: the root that it will return, and the
-- bytes that it has absorbed. Its last leaf is open.
use Rattle.std.specs.Prelude.{◌≡◌, ℕ, ◌+◌, ◌-◌, ◌*◌, ◌<◌, nat_le, Bool, true, false, if◌then◌else◌}
use Rattle.std.specs.Prelude.{List, ◌++◌, length, take, drop}
use Rattle.blake2_digest.specs.States.{Meaning}
use Rattle.blake2_tree.specs.TreeRoot.{TreeParameters}
use Rattle.blake2_tree.specs.LeafRanges.{range_digests}

-- The digests that y adds, if the open leaf has room for `room` more bytes, and has the digest
-- `open_leaf` after them, as the last leaf or not. If y fits, that leaf is the last. Otherwise the
-- leaf is full, and the rest of y makes the leaves from index `next` on.
unfoldable pub remaining_leaf_digests : TreeParameters → (Bool → List ℕ → List ℕ) → ℕ → ℕ → List ℕ
    → List ℕ
remaining_leaf_digests p open_leaf room next y =
    if nat_le (length y) room then open_leaf true y
    else open_leaf false (take room y) ++ range_digests p next true (drop room y)

-- The meaning of a tree whose last leaf is open.
pub record OpenTree : Type 0 where
  pub shared : TreeParameters
  -- The number of closed leaves.
  pub closed : ℕ
  -- The number of bytes in the open leaf.
  pub taken : ℕ
  -- The digest of the open leaf, as the last leaf or not, after it absorbs these bytes too.
  pub leaf : Bool → List ℕ → List ℕ
  -- The digest of the root after it absorbs these digests too.
  pub root : List ℕ → List ℕ

-- The open tree of a root and an open leaf, which are hashers or states of any type.
abbrev pub open_tree : {R S : Type 0} → Meaning R → Meaning S → TreeParameters → ℕ → R → S
    → OpenTree
open_tree roots leaves p closed root leaf = record {
  shared = p;
  closed = closed;
  taken = leaves.count leaf;
  leaf = leaves.future leaf;
  root = roots.future root true;
}

-- The number of bytes that the open leaf has room for.
abbrev pub room : OpenTree → ℕ
room t = t.shared.leaf_length - t.taken

-- The root that the tree returns after it absorbs y too.
unfoldable pub future : OpenTree → List ℕ → List ℕ
future t y = t.root (remaining_leaf_digests t.shared t.leaf (room t) (t.closed + 1) y)

-- The number of bytes that the tree has absorbed.
abbrev pub count : OpenTree → ℕ
count t = t.closed * t.shared.leaf_length + t.taken

-- The new tree is the old one after it absorbs x.
pub record HasAbsorbed (old : OpenTree) (x : List ℕ) (new : OpenTree) : Type 0 where
  pub shared : new.shared ≡ old.shared
  pub future : (y : List ℕ) → future new y ≡ future old (x ++ y)
  pub count : count new ≡ count old + length x

-- The new tree and the rest are the old tree and the input, after some bytes of the input went into
-- the tree.
pub record HasAbsorbedPrefix (old : OpenTree) (input : List ℕ) (new : OpenTree) (rest : List ℕ)
    : Type 0 where
  pub shared : new.shared ≡ old.shared
  pub future : (y : List ℕ) → future new (rest ++ y) ≡ future old (input ++ y)
  pub count : count new + length rest ≡ count old + length input
  -- Fewer bytes are left that are not in closed leaves.
  pub fewer : new.taken + length rest < old.taken + length input
