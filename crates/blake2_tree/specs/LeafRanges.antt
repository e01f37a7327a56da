-- A range of a message's leaves that is hashed separately, and its digests. If a message is cut
-- into ranges, their digests, joined in order, are those of all its leaves.
use Rattle.std.specs.Prelude.{◌≡◌, ℕ, ◌+◌, ◌*◌, ◌/◌, ◌%◌, ◌^◌, ◌<◌, ◌≤◌, ◌⊎◌, nat_eq, Bool, true}
use Rattle.std.specs.Prelude.{false, ◌&&◌, List, [], ◌∷◌, ◌++◌, length, take, drop}
use Rattle.std.specs.List.{All, flat_map, range_with_len, concat}
use Rattle.blake2_simd.specs.Family.{blake2b}
use Rattle.blake2_compress.specs.Hash.{Input, digest}
use Rattle.blake2_tree.specs.TreeRoot.{TreeParameters, leaf_count, leaf, node, leaf_digests}
use Rattle.blake2_tree.specs.TreeRoot.{tree_root}

-- ---- a range

-- n bytes are leaves of a message of fewer than 2^58 bytes. The first of them has the index
-- `first`, and `ends` says whether the last of them is the message's last. The leaves are whole,
-- except that the message's last may be shorter. No bytes are the one leaf of an empty message, and
-- are otherwise not a range.
pub record IsLeafRange (size first : ℕ) (ends : Bool) (n : ℕ) : Type 0 where
  pub some : (0 < n) ⊎ ((ends ≡ true) × (first ≡ 0))
  pub whole : (ends ≡ true) ⊎ (n % size ≡ 0)
  pub fits : first * size + n < 2 ^ 58

-- Leaf i of a range, as a node of the whole tree.
abbrev pub range_leaf_input : TreeParameters → ℕ → Bool → List ℕ → ℕ → Input
range_leaf_input p first ends bytes i =
    node p (first + i) 0 (ends && nat_eq (i + 1) (leaf_count p.leaf_length (length bytes)))
    (leaf p.leaf_length bytes i)

-- The digests of the leaves of a range, 64 bytes each, joined in order.
unfoldable pub range_digests : TreeParameters → ℕ → Bool → List ℕ → List ℕ
range_digests p first ends bytes =
    flat_map (λ i. digest blake2b 64 (range_leaf_input p first ends bytes i))
    (range_with_len 0 (leaf_count p.leaf_length (length bytes)))

-- ---- a message that is cut into ranges

-- The bytes are whole leaves, at least one.
pub record AreWholeLeaves (size : ℕ) (bytes : List ℕ) : Type 0 where
  pub some : 0 < length bytes
  pub whole : length bytes % size ≡ 0

-- A message is cut at boundaries of its leaves: into parts of whole leaves, followed by the last
-- part, which is not empty unless it is the only one.
pub record IsCutAtLeafBoundaries (size : ℕ) (front : List (List ℕ)) (last : List ℕ) : Type 0 where
  pub whole : All (AreWholeLeaves size) front
  pub some : (0 < length last) ⊎ (front ≡ [])

-- The digests of the ranges of a cut, joined. Each range begins at the index at which the one
-- before it ends, and the last one ends the message.
abbrev pub digests_of_cut_ranges : TreeParameters → ℕ → List (List ℕ) → List ℕ → List ℕ
digests_of_cut_ranges p first [] last = range_digests p first true last
digests_of_cut_ranges p first (x ∷ front) last =
    range_digests p first false x ++ digests_of_cut_ranges p (first + length x / p.leaf_length)
    front last

-- ---- a range that replaces another

-- n bytes from leaf `first` on replace those of a message of `old` bytes, which has that leaf. They
-- end the new message if they reach or pass the end of the old one. Otherwise bytes of the old one
-- follow them.
pub record ReplacesOldLeaves (size old first : ℕ) (ends : Bool) (n : ℕ) : Type 0 where
  pub begins : (first ≡ 0) ⊎ (first * size < old)
  pub at_end : (ends ≡ true) → old ≤ first * size + n
  pub before_end : (ends ≡ false) → first * size + n < old

-- The list `text`, with the elements from offset `at` on replaced by those of `new`.
abbrev pub overwritten_from : ℕ → List ℕ → List ℕ → List ℕ
overwritten_from at new text = take at text ++ (new ++ drop (at + length new) text)

-- ---- the contracts of ranges

-- The digests of a range are those of its leaves in every message that has the bytes of the range
-- there.
abbrev pub AreDigestsInEveryMessage : TreeParameters → ℕ → Bool → List ℕ → List ℕ → Type 0
AreDigestsInEveryMessage p first ends bytes digests = (message : List ℕ)
    → ReplacesOldLeaves p.leaf_length (length message) first ends (length bytes)
    → take (length bytes) (drop (first * p.leaf_length) message) ≡ bytes
    → digests ≡ take (length digests) (drop (64 * first) (leaf_digests p message))

-- If the digests are those of the ranges of a cut, this is the root of the message.
abbrev pub IsRootOfCuts : ℕ → TreeParameters → List ℕ → List ℕ → Type 0
IsRootOfCuts size p digests root = (front : List (List ℕ)) (last : List ℕ)
    → IsCutAtLeafBoundaries p.leaf_length front last
    → digests ≡ digests_of_cut_ranges p 0 front last
    → root ≡ tree_root size p (concat front ++ last)

-- If the digests are those of an old message's leaves, with those of a range instead of the leaves
-- that it replaces, this is the root of the message that has the range there.
abbrev pub IsRootAfterReplacement : ℕ → TreeParameters → List ℕ → List ℕ → Type 0
IsRootAfterReplacement size p digests root = (old new : List ℕ) (first : ℕ) (ends : Bool)
    → IsLeafRange p.leaf_length first ends (length new)
    → ReplacesOldLeaves p.leaf_length (length old) first ends (length new)
    → digests ≡ overwritten_from (64 * first) (range_digests p first ends new) (leaf_digests p old)
    → root ≡ tree_root size p (overwritten_from (first * p.leaf_length) new old)
