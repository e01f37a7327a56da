-- Ranges of a message's leaves: their digests, joined, are those of all leaves.
use Rattle.std.proofs.Common.{◌≡◌, ℕ, zero, suc, ◌+◌, ◌-◌, ◌*◌, ◌/◌, ◌<◌, ◌≤◌, ◌⊎◌, inl, inr, Bool}
use Rattle.std.proofs.Common.{true, false, List, [], ◌∷◌, ◌++◌, length, take, drop, refl, sym, ap}
use Rattle.std.proofs.Common.{◌∙◌, arith, append-nil, append_assoc, length-append, length-drop}
use Rattle.std.proofs.Common.{drop-drop}
use Rattle.std.proofs.lemmas.List.{take_at, drop_at, drop_all, take-append-drop, take-append-le}
use Rattle.std.proofs.lemmas.List.{drop-append-le, length-take-le, nil_from_length}
use Rattle.std.proofs.Math.Nat.{le-div_iff_mul-le}
use Rattle.std.proofs.lemmas.Bool.{false≢true}
use Rattle.std.specs.List.{All, concat}
use Rattle.blake2_simd.specs.Family.{blake2b}
use Rattle.blake2_compress.specs.Hash.{digest}
use Rattle.blake2_compress.proofs.RunSizes.{length-digest}
use Rattle.blake2_tree.specs.TreeRoot.{TreeParameters, leaf_count, node, leaf_digests}
use Rattle.blake2_tree.specs.TreeRoot.{root_input_over_digests}
use Rattle.blake2_tree.specs.TreeRoot.{tree_root}
use Rattle.blake2_tree.specs.LeafRanges.{range_leaf_input, range_digests, AreWholeLeaves}
use Rattle.blake2_tree.specs.LeafRanges.{IsCutAtLeafBoundaries}
use Rattle.blake2_tree.specs.LeafRanges.{digests_of_cut_ranges}
use Rattle.blake2_tree.specs.LeafRanges.{IsLeafRange, ReplacesOldLeaves, overwritten_from}
use Rattle.blake2_tree.specs.LeafRanges.{AreDigestsInEveryMessage, IsRootOfCuts}
use Rattle.blake2_tree.specs.LeafRanges.{IsRootAfterReplacement}
use Rattle.blake2_tree.proofs.NodeLemmas.{length-leaf_digests}
use Rattle.blake2_tree.proofs.MessageLeaves.{range_digests-single_leaf}
use Rattle.blake2_tree.proofs.MessageLeaves.{range_digests-first_leaf_and_rest}
use Rattle.blake2_tree.proofs.MessageLeaves.{range_digests-of_whole_message}
use Rattle.blake2_tree.proofs.MessageLeaves.{leaf_count-at_most_one_leaf}
use Rattle.blake2_tree.proofs.MessageLeaves.{leaf_count-with_leaf_in_front}
use Rattle.blake2_tree.proofs.JoinedRanges.{length-flat_map-range}

-- ---- their lengths

pub length-range_digests : (s : TreeParameters) (first : ℕ) (ends : Bool) (bytes : List ℕ)
    → length (range_digests s first ends bytes) ≡ leaf_count s.leaf_length (length bytes) * 64
unfolding range_digests
length-range_digests s first ends bytes =
    length-flat_map-range (λ i. digest blake2b 64 (range_leaf_input s first ends bytes i)) 64
    (λ i. length-digest blake2b 64 (range_leaf_input s first ends bytes i) (omega arith)) 0
    (leaf_count s.leaf_length (length bytes))

-- ---- two ranges

-- Whole leaves, and more after them.
pub range_digests-append_k_leaves : (s : TreeParameters) (first k : ℕ) (ends : Bool) (x y : List ℕ)
    → 0 < s.leaf_length → length x ≡ suc k * s.leaf_length → 0 < length y
    → range_digests s first ends (x ++ y)
    ≡ range_digests s first false x ++ range_digests s (first + suc k) ends y
range_digests-append_k_leaves s first zero ends x y some whole more =
    let l : ℕ = s.leaf_length in
    let one : length x ≡ l = omega arith in
    let at : first + 1 ≡ first + suc 0 = omega arith in
    range_digests-first_leaf_and_rest s first ends (x ++ y) some (omega (arith, length-append x y))
    ∙ (λ i. digest blake2b 64 (node s first 0 false (take_at x y l one i))
    ++ range_digests s (at i) ends (drop_at x y l one i))
    ∙ ap (λ d. d ++ range_digests s (first + suc 0) ends y)
    (sym (range_digests-single_leaf s first false x some (omega arith)))
range_digests-append_k_leaves s first (suc k) ends x y some whole more =
    let l : ℕ = s.leaf_length in
    let size : length x ≡ l + suc k * l = omega arith in
    let fits : l ≤ length x = omega arith in
    let rest : length (drop l x) ≡ suc k * l = omega (arith, length-drop l x) in
    let at : first + 1 + suc k ≡ first + suc (suc k) = omega arith in
    let d : List ℕ = digest blake2b 64 (node s first 0 false (take l x)) in
    range_digests-first_leaf_and_rest s first ends (x ++ y) some (omega (arith, length-append x y))
    ∙ (λ i. digest blake2b 64 (node s first 0 false (take-append-le l x y fits i))
    ++ range_digests s (first + 1) ends (drop-append-le l x y fits i))
    ∙ ap (λ r. d ++ r)
    (range_digests-append_k_leaves s (first + 1) k ends (drop l x) y some rest more
    ∙ (λ i. range_digests s (first + 1) false (drop l x) ++ range_digests s (at i) ends y))
    ∙ sym (append_assoc d (range_digests s (first + 1) false (drop l x))
    (range_digests s (first + suc (suc k)) ends y))
    ∙ ap (λ r. r ++ range_digests s (first + suc (suc k)) ends y)
    (sym (range_digests-first_leaf_and_rest s first false x some (omega arith)))

-- The number of whole leaves in these bytes.
leaf_quotient-is_positive : (size n q : ℕ) → q * size ≡ n → 0 < n → (k : ℕ) × (q ≡ suc k)
leaf_quotient-is_positive size n zero whole some = absurd (omega arith)
leaf_quotient-is_positive size n (suc k) whole some = (k, refl)

pub AreWholeLeaves-leaf_quotient : (size : ℕ) (x : List ℕ) → 0 < size → AreWholeLeaves size x
    → (k : ℕ) × (length x / size ≡ suc k) × (length x ≡ suc k * size)
AreWholeLeaves-leaf_quotient size x some is_whole =
    let q : ℕ = length x / size in
    let whole : q * size ≡ length x = omega (arith, is_whole.whole) in
    let k = leaf_quotient-is_positive size (length x) q whole is_whole.some in
    (k.0, k.1, sym whole ∙ ap (λ m. m * size) k.1)

pub range_digests-append_whole_leaves : (s : TreeParameters) (first : ℕ) (ends : Bool)
    (x y : List ℕ)
    → 0 < s.leaf_length → AreWholeLeaves s.leaf_length x → 0 < length y
    → range_digests s first ends (x ++ y)
    ≡ range_digests s first false x ++ range_digests s (first + length x / s.leaf_length) ends y
range_digests-append_whole_leaves s first ends x y some whole more =
    let k = AreWholeLeaves-leaf_quotient s.leaf_length x some whole in
    range_digests-append_k_leaves s first k.0 ends x y some k.2 more
    ∙ ap (λ c. range_digests s first false x ++ range_digests s (first + c) ends y) (sym k.1)

-- The digests of the first k leaves, if more follow, and those of the rest.
pub range_digests-split_after_k_leaves : (s : TreeParameters) (p k : ℕ) (ends : Bool) (x : List ℕ)
    → 0 < s.leaf_length → 1 ≤ k → k * s.leaf_length < length x
    → range_digests s p ends x ≡ range_digests s p false (take (k * s.leaf_length) x)
    ++ range_digests s (p + k) ends (drop (k * s.leaf_length) x)
range_digests-split_after_k_leaves s p zero ends x some one more = absurd (omega arith)
range_digests-split_after_k_leaves s p (suc k) ends x some one more =
    let m : ℕ = suc k * s.leaf_length in
    ap (range_digests s p ends) (sym (take-append-drop m x))
    ∙ range_digests-append_k_leaves s p k ends (take m x) (drop m x) some
    (length-take-le m x (omega arith)) (omega (arith, length-drop m x))

-- ---- any number of ranges

digests_of_cut_ranges-are_range_digests : (s : TreeParameters) (first : ℕ) (front : List (List ℕ))
    (last : List ℕ)
    → 0 < s.leaf_length → All (AreWholeLeaves s.leaf_length) front → 0 < length last
    → digests_of_cut_ranges s first front last ≡ range_digests s first true (concat front ++ last)
digests_of_cut_ranges-are_range_digests s first [] last some whole more = refl
digests_of_cut_ranges-are_range_digests s first (x ∷ front) last some whole more =
    let next : ℕ = first + length x / s.leaf_length in
    ap (λ d. range_digests s first false x ++ d)
    (digests_of_cut_ranges-are_range_digests s next front last some
    (λ k d below. whole (suc k) d (omega arith)) more)
    ∙ sym (range_digests-append_whole_leaves s first true x (concat front ++ last) some
    (whole 0 [] (omega arith)) (omega (arith, length-append (concat front) last)))
    ∙ ap (range_digests s first true) (sym (append_assoc x (concat front) last))

-- The digests of the ranges of a cut are those of the message's leaves.
pub digests_of_cut_ranges-are_leaf_digests : (s : TreeParameters) (front : List (List ℕ))
    (last : List ℕ)
    → 0 < s.leaf_length → IsCutAtLeafBoundaries s.leaf_length front last
    → digests_of_cut_ranges s 0 front last ≡ leaf_digests s (concat front ++ last)
digests_of_cut_ranges-are_leaf_digests s front last some cut =
    elim cut.some [
      | inl more ↦ digests_of_cut_ranges-are_range_digests s 0 front last some cut.whole more
      | inr one ↦ ap (λ f. digests_of_cut_ranges s 0 f last) one
          ∙ ap (λ f. range_digests s 0 true (concat f ++ last)) (sym one)
    ]
    ∙ range_digests-of_whole_message s (concat front ++ last)

-- ---- a range of a message, or one that replaces another

-- The number of leaves in whole ones.
pub leaf_count-whole : (size k : ℕ) → 0 < size → leaf_count size (suc k * size) ≡ suc k
leaf_count-whole size zero some = leaf_count-at_most_one_leaf size (suc 0 * size) some (omega arith)
leaf_count-whole size (suc k) some =
    let more : suc (suc k) * size ≡ size + suc k * size = omega arith in
    ap (leaf_count size) more
    ∙ leaf_count-with_leaf_in_front size (suc k * size) some (omega arith)
    ∙ ap suc (leaf_count-whole size k some)

-- More bytes do not have fewer leaves.
leaf_count-is_monotone : (size m n : ℕ) → 0 < size → m ≤ n → leaf_count size m ≤ leaf_count size n
leaf_count-is_monotone size m n some le =
    let low : (m + (size - 1)) / size * size ≤ n + (size - 1) = omega arith in
    let h : (m + (size - 1)) / size ≤ (n + (size - 1)) / size =
    (le-div_iff_mul-le {k = size} {x = (m + (size - 1)) / size} {y = n + (size - 1)} some).1 low in
    omega (arith, h)

-- The digests of the leaves before index `first`.
digests_before_range : TreeParameters → ℕ → List ℕ → List ℕ
digests_before_range s zero before = []
digests_before_range s (suc k) before = range_digests s 0 false before

length-digests_before_range : (s : TreeParameters) (first : ℕ) (before : List ℕ) → 0 < s.leaf_length
    → length before ≡ first * s.leaf_length
    → length (digests_before_range s first before) ≡ 64 * first
unfolding digests_before_range
length-digests_before_range s zero before some whole = omega arith
length-digests_before_range s (suc k) before some whole =
    length-range_digests s 0 false before
    ∙ ap (λ n. leaf_count s.leaf_length n * 64) whole
    ∙ ap (λ n. n * 64) (leaf_count-whole s.leaf_length k some)
    ∙ (omega arith)

-- The digests of all leaves: those before index `first`, and those from there on.
leaf_digests-split_before_range : (s : TreeParameters) (first : ℕ) (before rest : List ℕ)
    → 0 < s.leaf_length
    → length before ≡ first * s.leaf_length → (first ≡ 0) ⊎ (0 < length rest)
    → leaf_digests s (before ++ rest)
    ≡ digests_before_range s first before ++ range_digests s first true rest
unfolding digests_before_range
leaf_digests-split_before_range s zero before rest some whole begins =
    let nothing : before ≡ [] = nil_from_length before (omega arith) in
    sym (range_digests-of_whole_message s (before ++ rest))
    ∙ ap (λ b. range_digests s 0 true (b ++ rest)) nothing
leaf_digests-split_before_range s (suc k) before rest some whole begins =
    let at : 0 + suc k ≡ suc k = omega arith in
    let more : 0 < length rest = elim begins [ inl none ↦ absurd (omega arith) | inr more ↦ more ] in
    sym (range_digests-of_whole_message s (before ++ rest))
    ∙ range_digests-append_k_leaves s 0 k true before rest some whole more
    ∙ ap (λ p. range_digests s 0 false before ++ range_digests s p true rest) at

-- What comes after the new digests.
range_digests-keep_later_digests : (s : TreeParameters) (first : ℕ) (ends : Bool)
    (old new after : List ℕ)
    → 0 < s.leaf_length → IsLeafRange s.leaf_length first ends (length new)
    → ((ends ≡ true) → length old ≤ length new) → ((ends ≡ false) → length new < length old)
    → after ≡ drop (length new) old
    → range_digests s first true (new ++ after) ≡ range_digests s first ends new
    ++ drop (length (range_digests s first ends new)) (range_digests s first true old)
range_digests-keep_later_digests s first true old new after some is_range at_end before_end
    is_after =
    let l : ℕ = s.leaf_length in
    let within : length old ≤ length new = at_end refl in
    let none : after ≡ [] = is_after ∙ drop_all (length new) old within in
    let d : List ℕ = range_digests s first true new in
    let no_more : drop (length d) (range_digests s first true old) ≡ [] =
    drop_all (length d) (range_digests s first true old)
    (omega (
      arith,
      length-range_digests s first true old,
      length-range_digests s first true new,
      leaf_count-is_monotone l (length old) (length new) some within,
    )) in
    ap (λ a. range_digests s first true (new ++ a)) none
    ∙ ap (range_digests s first true) (append-nil new)
    ∙ sym (append-nil d)
    ∙ ap (λ r. d ++ r) (sym no_more)
range_digests-keep_later_digests s first false old new after some is_range at_end before_end
    is_after =
    let l : ℕ = s.leaf_length in
    let within : length new < length old = before_end refl in
    let is_whole : AreWholeLeaves l new = record {
      some = elim is_range.some [ inl h ↦ h | inr h ↦ absurd (false≢true h.0) ];
      whole = elim is_range.whole [ inl h ↦ absurd (false≢true h) | inr h ↦ h ];
    } in
    let k = AreWholeLeaves-leaf_quotient l new some is_whole in
    let next : ℕ = first + suc k.0 in
    let mid : List ℕ = take (length new) old in
    let long : length mid ≡ length new = length-take-le (length new) old (omega arith) in
    let more : 0 < length after =
    omega (arith, ap length is_after, length-drop (length new) old) in
    let d : List ℕ = range_digests s first false new in
    let split : old ≡ mid ++ after =
    sym (take-append-drop (length new) old) ∙ ap (λ a. mid ++ a) (sym is_after) in
    let before : range_digests s first true old
    ≡ range_digests s first false mid ++ range_digests s next true after =
    ap (range_digests s first true) split
    ∙ range_digests-append_k_leaves s first k.0 true mid after some (long ∙ k.2) more in
    let same : length (range_digests s first false mid) ≡ length d =
    length-range_digests s first false mid
    ∙ ap (λ n. leaf_count l n * 64) long
    ∙ sym (length-range_digests s first false new) in
    range_digests-append_k_leaves s first k.0 true new after some k.2 more
    ∙ ap (λ r. d ++ r)
    (sym (ap (drop (length d)) before
    ∙ drop_at (range_digests s first false mid) (range_digests s next true after) (length d) same))

-- The digests of a range replace those of the leaves that it replaces.
pub leaf_digests-of_replaced_range : (s : TreeParameters) (first : ℕ) (ends : Bool)
    (old new : List ℕ)
    → 0 < s.leaf_length → IsLeafRange s.leaf_length first ends (length new)
    → ReplacesOldLeaves s.leaf_length (length old) first ends (length new)
    → leaf_digests s (overwritten_from (first * s.leaf_length) new old)
    ≡ overwritten_from (64 * first) (range_digests s first ends new) (leaf_digests s old)
leaf_digests-of_replaced_range s first ends old new some is_range placed =
    let l : ℕ = s.leaf_length in
    let at : ℕ = first * l in
    let n : ℕ = length new in
    let before : List ℕ = take at old in
    let rest : List ℕ = drop at old in
    let after : List ℕ = drop (at + n) old in
    let starts : at ≤ length old = elim placed.begins [
      | inl none ↦ omega (arith, ap (λ f. f * l) none)
      | inr h ↦ omega arith
    ] in
    let left : length rest ≡ length old - at = length-drop at old in
    let long : length before ≡ first * l = length-take-le at old starts in
    let old_begins : (first ≡ 0) ⊎ (0 < length rest) = elim placed.begins [
      | inl none ↦ inl none
      | inr h ↦ inr (omega arith)
    ] in
    let new_begins : (first ≡ 0) ⊎ (0 < length (new ++ after)) = elim is_range.some [
      | inl h ↦ inr (omega (arith, length-append new after))
      | inr h ↦ inl h.1
    ] in
    let front : List ℕ = digests_before_range s first before in
    let d : List ℕ = range_digests s first ends new in
    let behind : List ℕ = range_digests s first true rest in
    let size : length front ≡ 64 * first =
    length-digests_before_range s first before some long in
    let was : leaf_digests s old ≡ front ++ behind =
    ap (leaf_digests s) (sym (take-append-drop at old))
    ∙ leaf_digests-split_before_range s first before rest some long old_begins in
    let head : take (64 * first) (leaf_digests s old) ≡ front =
    ap (take (64 * first)) was ∙ take_at front behind (64 * first) size in
    let tail : drop (64 * first + length d) (leaf_digests s old) ≡ drop (length d) behind =
    sym (drop-drop (length d) (64 * first) (leaf_digests s old))
    ∙ ap (drop (length d)) (ap (drop (64 * first)) was ∙ drop_at front behind (64 * first) size) in
    leaf_digests-split_before_range s first before (new ++ after) some long new_begins
    ∙ ap (λ r. front ++ r)
    (range_digests-keep_later_digests s first ends rest new after some is_range
    (λ e. omega (arith, placed.at_end e)) (λ e. omega (arith, placed.before_end e))
    (sym (drop-drop n at old)))
    ∙ sym (λ i. head i ++ (d ++ tail i))

-- ---- contracts

leaf_count-at_least_first : (size first n : ℕ) → 0 < size → first * size ≤ n
    → first ≤ leaf_count size n
leaf_count-at_least_first size first n some within =
    let low : first * size ≤ n + (size - 1) = omega arith in
    let h : first ≤ (n + (size - 1)) / size =
    (le-div_iff_mul-le {k = size} {x = first} {y = n + (size - 1)} some).1 low in
    omega (arith, h)

pub range_digests-are_in_every_message : (s : TreeParameters) (first : ℕ) (ends : Bool)
    (bytes : List ℕ)
    → 0 < s.leaf_length → IsLeafRange s.leaf_length first ends (length bytes)
    → AreDigestsInEveryMessage s first ends bytes (range_digests s first ends bytes)
range_digests-are_in_every_message s first ends bytes some is_range message placed is =
    let l : ℕ = s.leaf_length in
    let at : ℕ = first * l in
    let n : ℕ = length bytes in
    let all : List ℕ = leaf_digests s message in
    let d : List ℕ = range_digests s first ends bytes in
    let behind : List ℕ = drop (64 * first + length d) all in
    let same : overwritten_from at bytes message ≡ message =
    (λ i. take at message ++ (sym is i ++ sym (drop-drop n at message) i))
    ∙ ap (λ r. take at message ++ r) (take-append-drop n (drop at message))
    ∙ take-append-drop at message in
    let parts : all ≡ take (64 * first) all ++ (d ++ behind) =
    ap (leaf_digests s) (sym same) ∙ leaf_digests-of_replaced_range s first ends message bytes some
    is_range
    placed in
    let starts : at ≤ length message = elim placed.begins [
      | inl none ↦ omega (arith, ap (λ f. f * l) none)
      | inr h ↦ omega arith
    ] in
    let fits : 64 * first ≤ length all =
    omega (
      arith,
      length-leaf_digests s message,
      leaf_count-at_least_first l first (length message) some
          starts,
    ) in
    sym (ap (take (length d))
    (ap (drop (64 * first)) parts
    ∙ drop_at (take (64 * first) all) (d ++ behind) (64 * first)
    (length-take-le (64 * first) all fits))
    ∙ take_at d behind (length d) refl)

pub root_over_digests-is_root_of_cuts : (size : ℕ) (s : TreeParameters) (digests : List ℕ)
    → 0 < s.leaf_length
    → IsRootOfCuts size s digests (digest blake2b size (root_input_over_digests s digests))
unfolding tree_root
root_over_digests-is_root_of_cuts size s digests some front last cut are =
    ap (λ d. digest blake2b size (root_input_over_digests s d))
    (are ∙ digests_of_cut_ranges-are_leaf_digests s front last some cut)

pub root_over_digests-after_replacement : (size : ℕ) (s : TreeParameters) (digests : List ℕ)
    → 0 < s.leaf_length
    → IsRootAfterReplacement size s digests (digest blake2b size
    (root_input_over_digests s digests))
unfolding tree_root
root_over_digests-after_replacement size s digests some old new first ends is_range placed are =
    ap (λ d. digest blake2b size (root_input_over_digests s d))
    (are ∙ sym (leaf_digests-of_replaced_range s first ends old new some is_range placed))

-- The number of leaves in whole ones.
pub leaf_count-is_quotient : (size : ℕ) (x : List ℕ) → 0 < size → AreWholeLeaves size x
    → leaf_count size (length x) ≡ length x / size
leaf_count-is_quotient size x some whole =
    let k = AreWholeLeaves-leaf_quotient size x some whole in
    ap (leaf_count size) k.2 ∙ leaf_count-whole size k.0 some ∙ sym k.1
