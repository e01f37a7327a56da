-- The leaves of a message, one after the other.
use Rattle.std.proofs.Common.{◌≡◌, ℕ, suc, ◌+◌, ◌-◌, ◌*◌, ◌/◌, ◌<◌, ◌≤◌, inl, inr, Bool, true}
use Rattle.std.proofs.Common.{false, nat_eq, ◌&&◌, List, ◌++◌, length, take, drop, refl, sym, ap}
use Rattle.std.proofs.Common.{◌∙◌, arith, zero-add, append-nil, length-drop, drop-drop}
use Rattle.std.proofs.lemmas.List.{take_all}
use Rattle.std.proofs.lemmas.Bool.{cases_eq, eq-eqb, ne_eqb}
use Rattle.std.proofs.Math.Bool.{and-true, and-false}
use Rattle.std.proofs.Math.Nat.{div-lt_iff_lt-mul, add-div_left, le-div_iff_mul-le}
use Rattle.std.specs.List.{flat_map, range_with_len}
use Rattle.blake2_simd.specs.Family.{blake2b}
use Rattle.blake2_compress.specs.Hash.{Input, digest}
use Rattle.blake2_tree.specs.TreeRoot.{TreeParameters, leaf_count, leaf, node, leaf_digests}
use Rattle.blake2_tree.specs.LeafRanges.{range_digests}
use Rattle.blake2_tree.proofs.JoinedRanges.{flat_map-range_shifted_by_one}

-- ---- the number of leaves

-- A message of at most a leaf's bytes is one leaf.
pub leaf_count-at_most_one_leaf : (size n : ℕ) → 0 < size → n ≤ size → leaf_count size n ≡ 1
leaf_count-at_most_one_leaf size n some short =
    let below : (n + (size - 1)) / size < 2 = (div-lt_iff_lt-mul {k = size} {x = n
    + (size - 1)} {y = 2} some).1 (omega arith) in
    omega (arith, below)

-- A leaf before a message that is not empty is one more leaf.
pub leaf_count-with_leaf_in_front : (size n : ℕ) → 0 < size → 0 < n
    → leaf_count size (size + n) ≡ suc (leaf_count size n)
leaf_count-with_leaf_in_front size n some more =
    let order : size + n + (size - 1) ≡ size + (n + (size - 1)) = omega arith in
    let one_more : (size + (n + (size - 1))) / size ≡ (n + (size - 1)) / size + 1 =
    add-div_left (n + (size - 1)) {k = size} some in
    let at_least : 1 ≤ (n + (size - 1)) / size = (le-div_iff_mul-le {k = size} {x = 1} {y = n
    + (size - 1)} some).1 (omega arith) in
    rw (order, one_more) (omega (arith, at_least))

-- ---- their digests

-- Leaf i of a range of `count` leaves, the first of which has the index `first`.
abbrev nth_leaf_input : TreeParameters → ℕ → Bool → ℕ → List ℕ → ℕ → Input
nth_leaf_input s first ends count bytes i =
    node s (first + i) 0 (ends && nat_eq (i + 1) count) (leaf s.leaf_length bytes i)

-- The digests of all leaves of a range.
digests_of_leaves : TreeParameters → ℕ → Bool → ℕ → List ℕ → List ℕ
digests_of_leaves s first ends count bytes = flat_map (λ i.
    digest blake2b 64 (nth_leaf_input s first ends count bytes i)) (range_with_len 0 count)

range_digests-are_digests_of_leaves : (s : TreeParameters) (first : ℕ) (ends : Bool)
    (bytes : List ℕ)
    → range_digests s first ends bytes ≡ digests_of_leaves s first ends
    (leaf_count s.leaf_length (length bytes)) bytes
unfolding range_digests digests_of_leaves
range_digests-are_digests_of_leaves s first ends bytes = refl

nat_eq-of_successors : (i n : ℕ) → nat_eq (i + 1 + 1) (suc n) ≡ nat_eq (i + 1) n
nat_eq-of_successors i n = elim (cases_eq (i + 1) n) [
  | inl e ↦ eq-eqb (i + 1 + 1) (suc n) (omega arith) ∙ sym (eq-eqb (i + 1) n e)
  | inr ne ↦ ne_eqb (i + 1 + 1) (suc n) (λ e. ne (omega arith)) ∙ sym (ne_eqb (i + 1) n ne)
]

-- The leaf after the next one is the next one of the rest.
nth_leaf_input-of_rest : (s : TreeParameters) (first : ℕ) (ends : Bool) (count : ℕ) (bytes : List ℕ)
    (i : ℕ)
    → nth_leaf_input s first ends (suc count) bytes (i + 1)
    ≡ nth_leaf_input s (first + 1) ends count (drop s.leaf_length bytes) i
nth_leaf_input-of_rest s first ends count bytes i =
    let place : first + (i + 1) ≡ first + 1 + i = omega arith in
    let start : (i + 1) * s.leaf_length ≡ s.leaf_length + i * s.leaf_length = omega arith in
    rw (
      place,
      start,
      ← drop-drop (i * s.leaf_length) s.leaf_length bytes,
      nat_eq-of_successors i count,
    ) refl

-- The first digest, and those of the rest.
digests_of_leaves-first_and_rest : (s : TreeParameters) (first : ℕ) (ends : Bool) (count : ℕ)
    (bytes : List ℕ)
    → digests_of_leaves s first ends (suc count) bytes ≡ digest blake2b 64
    (nth_leaf_input s first ends (suc count) bytes 0) ++ digests_of_leaves s (first + 1) ends count
    (drop s.leaf_length bytes)
unfolding digests_of_leaves
digests_of_leaves-first_and_rest s first ends count bytes =
    ap (λ (rest : List ℕ). digest blake2b 64 (nth_leaf_input s first ends (suc count) bytes 0)
    ++ rest)
    (flat_map-range_shifted_by_one _ _ (λ i. ap (digest blake2b 64)
    (nth_leaf_input-of_rest s first ends count bytes i)) 0 count)

digests_of_leaves-single_leaf : (s : TreeParameters) (first : ℕ) (ends : Bool) (bytes : List ℕ)
    → length bytes ≤ s.leaf_length
    → digests_of_leaves s first ends 1 bytes ≡ digest blake2b 64 (node s first 0 ends bytes)
unfolding digests_of_leaves
digests_of_leaves-single_leaf s first ends bytes short =
    let start : 0 * s.leaf_length ≡ 0 = omega arith in
    let at : first + 0 ≡ first = omega arith in
    rw (
      append-nil (digest blake2b 64 (nth_leaf_input s first ends 1 bytes 0)),
      at,
      start,
      take_all s.leaf_length bytes short,
      and-true ends,
    ) refl

-- The digests of a range of at most a leaf: that of the leaf, which is the message's last or not.
pub range_digests-single_leaf : (s : TreeParameters) (first : ℕ) (ends : Bool) (bytes : List ℕ)
    → 0 < s.leaf_length → length bytes ≤ s.leaf_length
    → range_digests s first ends bytes ≡ digest blake2b 64 (node s first 0 ends bytes)
range_digests-single_leaf s first ends bytes some short =
    range_digests-are_digests_of_leaves s first ends bytes
    ∙ ap (λ (n : ℕ). digests_of_leaves s first ends n bytes)
    (leaf_count-at_most_one_leaf s.leaf_length (length bytes) some short)
    ∙ digests_of_leaves-single_leaf s first ends bytes short

-- The first of several leaves is not the last.
nth_leaf_input-first_is_not_last : (s : TreeParameters) (first : ℕ) (ends : Bool) (count : ℕ)
    (bytes : List ℕ)
    → 0 < count
    → nth_leaf_input s first ends (suc count) bytes 0
    ≡ node s first 0 false (take s.leaf_length bytes)
nth_leaf_input-first_is_not_last s first ends count bytes more =
    let start : 0 * s.leaf_length ≡ 0 = omega arith in
    let at : first + 0 ≡ first = omega arith in
    let flag : nat_eq 1 (suc count) ≡ false = ne_eqb 1 (suc count) (λ e. absurd (omega arith)) in
    rw (at, start, flag, and-false ends) refl

-- The digests of a longer range: that of its first leaf, which is not the last, and those of the
-- rest.
pub range_digests-first_leaf_and_rest : (s : TreeParameters) (first : ℕ) (ends : Bool)
    (bytes : List ℕ)
    → 0 < s.leaf_length → s.leaf_length < length bytes
    → range_digests s first ends bytes
    ≡ digest blake2b 64 (node s first 0 false (take s.leaf_length bytes))
    ++ range_digests s (first + 1) ends (drop s.leaf_length bytes)
range_digests-first_leaf_and_rest s first ends bytes some long =
    let rest : List ℕ = drop s.leaf_length bytes in
    let left : length bytes ≡ s.leaf_length + length rest =
    omega (arith, length-drop s.leaf_length bytes) in
    let count : leaf_count s.leaf_length (length bytes)
    ≡ suc (leaf_count s.leaf_length (length rest)) =
    ap (leaf_count s.leaf_length) left ∙ leaf_count-with_leaf_in_front s.leaf_length (length rest)
    some
    (omega arith) in
    range_digests-are_digests_of_leaves s first ends bytes
    ∙ ap (λ (n : ℕ). digests_of_leaves s first ends n bytes) count
    ∙ digests_of_leaves-first_and_rest s first ends (leaf_count s.leaf_length (length rest)) bytes
    ∙ ap (λ (leaf : Input). digest blake2b 64 leaf
    ++ digests_of_leaves s (first + 1) ends (leaf_count s.leaf_length (length rest)) rest)
    (nth_leaf_input-first_is_not_last s first ends (leaf_count s.leaf_length (length rest)) bytes
    (omega arith))
    ∙ ap (λ (digests : List ℕ). digest blake2b 64
    (node s first 0 false (take s.leaf_length bytes)) ++ digests)
    (sym (range_digests-are_digests_of_leaves s (first + 1) ends rest))

-- The leaves of a whole message are those from index 0 on.
pub range_digests-of_whole_message : (s : TreeParameters) (message : List ℕ)
    → range_digests s 0 true message ≡ leaf_digests s message
unfolding range_digests leaf_digests
range_digests-of_whole_message s message = simp zero-add
