-- Four whole leaves in parallel: with more after them, or the last of a message.
use Rattle.std.proofs.Common.{◌≡◌, ℕ, ◌+◌, ◌*◌, ◌<◌, ◌≤◌, Bool, false, List, [], ◌∷◌}
use Rattle.std.proofs.Common.{◌++◌, length, take, drop, refl, sym, ap, ◌∙◌, arith, length-drop}
use Rattle.std.proofs.lemmas.List.{take-append-le, drop-append-le, take-append-drop, length-take-le}
use Rattle.std.proofs.lemmas.List.{take-take, drop-take}
use Rattle.std.proofs.lemmas.List.Folds.{concat-append}
use Rattle.std.proofs.Math.Bool.{and-true, and-false}
use Rattle.std.specs.List.{concat}
use Rattle.blake2_tree.specs.TreeRoot.{TreeParameters, leaf, leaf_count}
use Rattle.blake2_tree.specs.NodeViews.{node_digest, digests_of_four_leaves}
use Rattle.blake2_tree.specs.LeafRanges.{range_digests}
use Rattle.blake2_tree.proofs.RangeLaws.{leaf_count-whole, range_digests-split_after_k_leaves}

-- The digests of exactly four leaves, the fourth of which is the message's last or not.
pub range_digests-last_four : (s : TreeParameters) (p : ℕ) (ends : Bool) (x : List ℕ)
    → 0 < s.leaf_length → length x ≡ 4 * s.leaf_length
    → range_digests s p ends x ≡ concat (digests_of_four_leaves s p ends x)
unfolding range_digests
range_digests-last_four s p ends x some whole =
    let four : leaf_count s.leaf_length (length x) ≡ 4 =
    ap (leaf_count s.leaf_length) whole ∙ leaf_count-whole s.leaf_length 3 some in
    let at : p + 0 ≡ p = omega arith in
    rw (four, and-false ends, and-true ends, at) refl

-- The digests of four leaves do not depend on what follows them.
leaf-unchanged_by_append : (size i : ℕ) (x y : List ℕ) → i * size + size ≤ length x
    → leaf size (x ++ y) i ≡ leaf size x i
leaf-unchanged_by_append size i x y within =
    let rest : drop (i * size) (x ++ y) ≡ drop (i * size) x ++ y =
    drop-append-le (i * size) x y (omega arith) in
    ap (take size) rest ∙ take-append-le size (drop (i * size) x) y
    (omega (arith, length-drop (i * size) x))

pub digests_of_four_leaves-append : (s : TreeParameters) (p : ℕ) (x y : List ℕ)
    → 4 * s.leaf_length ≤ length x
    → digests_of_four_leaves s p false (x ++ y) ≡ digests_of_four_leaves s p false x
digests_of_four_leaves-append s p x y within =
    let l : ℕ = s.leaf_length in
    λ k.
    node_digest 64 s p 0 false (leaf-unchanged_by_append l 0 x y (omega arith) k)
    ∷ node_digest 64 s (p + 1) 0 false (leaf-unchanged_by_append l 1 x y (omega arith) k)
    ∷ node_digest 64 s (p + 2) 0 false (leaf-unchanged_by_append l 2 x y (omega arith) k)
    ∷ node_digest 64 s (p + 3) 0 false (leaf-unchanged_by_append l 3 x y (omega arith) k)
    ∷ []

-- ---- whole leaves at the beginning of a text that goes on

-- The digests of the first four.
pub first_four_leaves-are_range_digests : (s : TreeParameters) (p : ℕ) (x : List ℕ)
    → 0 < s.leaf_length
    → 4 * s.leaf_length ≤ length x
    → concat (digests_of_four_leaves s p false x)
    ≡ range_digests s p false (take (4 * s.leaf_length) x)
first_four_leaves-are_range_digests s p x some long =
    let m : ℕ = 4 * s.leaf_length in
    let size : length (take m x) ≡ m = length-take-le m x long in
    ap (λ z. concat (digests_of_four_leaves s p false z)) (sym (take-append-drop m x))
    ∙ ap concat (digests_of_four_leaves-append s p (take m x) (drop m x) (omega (arith, size)))
    ∙ sym (range_digests-last_four s p false (take m x) some size)

-- The digests of the first eight.
pub first_eight_leaves-are_range_digests : (s : TreeParameters) (p : ℕ) (x : List ℕ)
    → 0 < s.leaf_length
    → 8 * s.leaf_length ≤ length x
    → concat (digests_of_four_leaves s p false x
    ++ digests_of_four_leaves s (p + 4) false (drop (4 * s.leaf_length) x))
    ≡ range_digests s p false (take (8 * s.leaf_length) x)
first_eight_leaves-are_range_digests s p x some long =
    let m : ℕ = 4 * s.leaf_length in
    let n : ℕ = 8 * s.leaf_length in
    let twice : m + m ≡ n = omega arith in
    let size : length (take n x) ≡ n = length-take-le n x long in
    let first : take m (take n x) ≡ take m x = take-take m n x (omega arith) in
    let second : drop m (take n x) ≡ take m (drop m x) =
    ap (λ k. drop m (take k x)) (sym twice) ∙ drop-take m m x in
    concat-append (digests_of_four_leaves s p false x)
    (digests_of_four_leaves s (p + 4) false (drop m x))
    ∙ (λ i. first_four_leaves-are_range_digests s p x some (omega arith) i
    ++ first_four_leaves-are_range_digests s (p + 4) (drop m x) some
    (omega (arith, length-drop m x)) i)
    ∙ (λ i. range_digests s p false (sym first i) ++ range_digests s (p + 4) false (sym second i))
    ∙ sym (range_digests-split_after_k_leaves s p 4 false (take n x) some (omega arith)
    (omega (arith, size)))
