-- An open tree that absorbs whole leaves by their joined digests, which were computed elsewhere.
use Rattle.std.specs.Prelude.{◌≡◌, ℕ, ◌+◌, ◌*◌, ◌/◌, ◌%◌, ◌^◌, ◌<◌, ◌⊎◌, false, List, [], ◌++◌, ◌∷◌}
use Rattle.std.specs.Prelude.{length, true, nat_eq, if◌then◌else◌}
use Rattle.std.specs.List.{All, concat}
use Rattle.blake2_tree.specs.TreeRoot.{TreeParameters}
use Rattle.blake2_tree.specs.OpenTrees.{OpenTree, HasAbsorbed, count, future}
use Rattle.blake2_tree.specs.LeafRanges.{IsLeafRange, AreWholeLeaves, range_digests}

-- The tree has absorbed whole leaves, or nothing.
abbrev pub IsAtLeafBoundary : OpenTree → Type 0
IsAtLeafBoundary t = count t % t.shared.leaf_length ≡ 0

-- The index of the leaf that comes next, in a tree at a boundary.
abbrev pub next_leaf_index : OpenTree → ℕ
next_leaf_index t = count t / t.shared.leaf_length

-- The tree is at a boundary, and n bytes are whole leaves, the first of them `skip` leaves after
-- the one that comes next.
pub record AreNextLeaves (t : OpenTree) (skip n : ℕ) : Type 0 where
  pub at_boundary : IsAtLeafBoundary t
  pub range : IsLeafRange t.shared.leaf_length (next_leaf_index t + skip) false n

-- The tree accepts n bytes after `digests` bytes of digests: there are no digests, or there are
-- whole ones, at a boundary and with bytes after them, so that none is that of the last leaf. The
-- message stays below 2^58 bytes.
pub record AcceptsLeafDigests (t : OpenTree) (digests n : ℕ) : Type 0 where
  pub whole : digests % 64 ≡ 0
  pub at_boundary : (digests ≡ 0) ⊎ IsAtLeafBoundary t
  pub followed : (digests ≡ 0) ⊎ (0 < n)
  pub fits : count t + digests / 64 * t.shared.leaf_length + n < 2 ^ 58

-- The digests of ranges of whole leaves that follow each other, from index `first` on, joined.
abbrev pub joined_range_digests : TreeParameters → ℕ → List (List ℕ) → List ℕ
joined_range_digests p first [] = []
joined_range_digests p first (x ∷ ranges) =
    range_digests p first false x ++ joined_range_digests p (first + length x / p.leaf_length)
    ranges

-- The root that a tree at a boundary returns if these are the digests of all its next leaves. Its
-- open leaf is empty or full, and in the second case its digest comes before them.
abbrev pub root_after_leaf_digests : OpenTree → List ℕ → List ℕ
root_after_leaf_digests t digests =
    if nat_eq t.taken 0 then t.root digests else t.root (t.leaf false [] ++ digests)

-- The new tree is the old one after it absorbs whole leaves, the next ones, by these digests,
-- whatever they are, and then the rest.
pub record HasAbsorbedDigests (old : OpenTree) (digests rest : List ℕ) (new : OpenTree)
    : Type 0 where
  pub shared : new.shared ≡ old.shared
  pub none : digests ≡ [] → HasAbsorbed old rest new
  pub root : 0 < length digests → (y : List ℕ) → future new y ≡ root_after_leaf_digests old
      (digests ++ range_digests old.shared (next_leaf_index old + length digests / 64) true
      (rest ++ y))
  pub count : count new ≡ count old + length digests / 64 * old.shared.leaf_length + length rest

-- The new tree is the old one after it absorbs whole leaves, the next ones, by these digests, and
-- then the rest. The leaves may have been hashed in several ranges.
pub record HasAbsorbedLeaves (old : OpenTree) (digests rest : List ℕ) (new : OpenTree)
    : Type 0 where
  pub shared : new.shared ≡ old.shared
  pub none : digests ≡ [] → HasAbsorbed old rest new
  pub leaves : (x : List ℕ) → AreWholeLeaves old.shared.leaf_length x
      → digests ≡ range_digests old.shared (next_leaf_index old) false x
      → HasAbsorbed old (x ++ rest) new
  pub ranges : (xs : List (List ℕ)) → All (AreWholeLeaves old.shared.leaf_length) xs
      → digests ≡ joined_range_digests old.shared (next_leaf_index old) xs
      → HasAbsorbed old (concat xs ++ rest) new
  pub count : count new ≡ count old + length digests / 64 * old.shared.leaf_length + length rest
