-- The digests that more bytes add to an open leaf and after it.
use Rattle.std.proofs.Common.{◌≡◌, ℕ, ◌+◌, ◌-◌, ◌<◌, ◌≤◌, inl, inr, Bool, true, false, List, []}
use Rattle.std.proofs.Common.{◌++◌, length, take, drop, refl, sym, ap, ◌∙◌, arith, length-append}
use Rattle.std.proofs.lemmas.Bool.{cases_lt, le-leb, lt-leb}
use Rattle.std.proofs.Math.Seq.{take-append-add, drop-append-add}
use Rattle.blake2_simd.specs.Family.{blake2b}
use Rattle.blake2_compress.specs.Hash.{digest}
use Rattle.blake2_tree.specs.TreeRoot.{TreeParameters, node}
use Rattle.blake2_tree.specs.LeafRanges.{range_digests}
use Rattle.blake2_tree.specs.OpenTrees.{remaining_leaf_digests}
use Rattle.blake2_tree.proofs.MessageLeaves.{range_digests-single_leaf}
use Rattle.blake2_tree.proofs.MessageLeaves.{range_digests-first_leaf_and_rest}

-- The digests that y adds to an open leaf that has absorbed nothing are those of the leaves of y.
pub remaining_leaf_digests-empty_leaf : (s : TreeParameters) (first : ℕ) (y : List ℕ)
    → 0 < s.leaf_length
    → remaining_leaf_digests s (λ last z. digest blake2b 64 (node s first 0 last z)) s.leaf_length
    (first + 1) y ≡ range_digests s first true y
unfolding remaining_leaf_digests
remaining_leaf_digests-empty_leaf s first y some = elim (cases_lt s.leaf_length (length y)) [
  | inr short ↦ rw (le-leb (length y) s.leaf_length short)
      (sym (range_digests-single_leaf s first true y some short))
  | inl long ↦ rw (lt-leb (length y) s.leaf_length long)
      (sym (range_digests-first_leaf_and_rest s first true y some long))
]

-- The open leaf absorbs the beginning x of what comes.
pub remaining_leaf_digests-after_prefix : (s : TreeParameters)
    (before after : Bool → List ℕ → List ℕ)
    (room next : ℕ) (x y : List ℕ) → length x ≤ room
    → ((last : Bool) (z : List ℕ) → after last z ≡ before last (x ++ z))
    → remaining_leaf_digests s after (room - length x) next y
    ≡ remaining_leaf_digests s before room next (x ++ y)
unfolding remaining_leaf_digests
remaining_leaf_digests-after_prefix s before after room next x y fits took =
    let size : length (x ++ y) ≡ length x + length y = length-append x y in
    elim (cases_lt room (length (x ++ y))) [
      | inr short ↦ rw (
        le-leb (length (x ++ y)) room short,
        le-leb (length y) (room - length x) (omega arith),
      ) (took true y)
      | inl long ↦
          let split : room ≡ length x + (room - length x) = omega arith in
          let front : take room (x ++ y) ≡ x ++ take (room - length x) y =
          ap (λ (n : ℕ). take n (x ++ y)) split ∙ take-append-add x y (room - length x) in
          let back : drop room (x ++ y) ≡ drop (room - length x) y =
          ap (λ (n : ℕ). drop n (x ++ y)) split ∙ drop-append-add x y (room - length x) in
          rw (
            lt-leb (length (x ++ y)) room long,
            lt-leb (length y) (room - length x) (omega arith),
            front,
            back,
            took false (take (room - length x) y),
          ) refl
    ]

-- If nothing comes, the open leaf is the last.
pub remaining_leaf_digests-without_input : (s : TreeParameters) (open_leaf : Bool → List ℕ → List ℕ)
    (room next : ℕ) → remaining_leaf_digests s open_leaf room next [] ≡ open_leaf true []
unfolding remaining_leaf_digests
remaining_leaf_digests-without_input s open_leaf room next = rw (le-leb 0 room (omega arith)) refl

-- A full leaf is not the last, if something comes.
pub remaining_leaf_digests-full_leaf : (s : TreeParameters) (open_leaf : Bool → List ℕ → List ℕ)
    (next : ℕ)
    (y : List ℕ) → 0 < length y
    → remaining_leaf_digests s open_leaf 0 next y
    ≡ open_leaf false [] ++ range_digests s next true y
unfolding remaining_leaf_digests
remaining_leaf_digests-full_leaf s open_leaf next y some = rw (lt-leb (length y) 0 some) refl
