-- A tree that absorbs whole leaves by their digests, from call to call.
use Rattle.std.proofs.Common.{◌≡◌, ℕ, suc, ◌+◌, ◌*◌, ◌/◌, ◌%◌, ◌^◌, ◌<◌, inl, inr, true, false}
use Rattle.std.proofs.Common.{List, [], ◌∷◌, ◌++◌, length, sym, ap, subst, ◌∙◌, arith, append-nil}
use Rattle.std.proofs.Common.{append_assoc, length-append}
use Rattle.std.proofs.Math.Nat.{mul-mod_left}
use Rattle.std.specs.List.{All, concat}
use Rattle.blake2_tree.specs.TreeRoot.{TreeParameters}
use Rattle.blake2_tree.specs.OpenTrees.{OpenTree, future, count, HasAbsorbed}
use Rattle.blake2_tree.specs.LeafUpdates.{AcceptsLeafDigests, next_leaf_index, joined_range_digests}
use Rattle.blake2_tree.specs.LeafUpdates.{root_after_leaf_digests}
use Rattle.blake2_tree.specs.LeafUpdates.{HasAbsorbedDigests, HasAbsorbedLeaves}
use Rattle.blake2_tree.specs.LeafRanges.{AreWholeLeaves, range_digests}
use Rattle.blake2_tree.proofs.RangeLaws.{length-range_digests, leaf_count-is_quotient}
use Rattle.blake2_tree.proofs.RangeLaws.{AreWholeLeaves-leaf_quotient}
use Rattle.blake2_tree.proofs.RangeLaws.{range_digests-append_whole_leaves}

-- Whole leaves and their digests have the same number.
length-leaves_of_digests : (old : OpenTree) (digests x : List ℕ) → 0 < old.shared.leaf_length
    → AreWholeLeaves old.shared.leaf_length x
    → digests ≡ range_digests old.shared (next_leaf_index old) false x
    → length digests / 64 * old.shared.leaf_length ≡ length x
length-leaves_of_digests old digests x some whole are =
    let l : ℕ = old.shared.leaf_length in
    let k = AreWholeLeaves-leaf_quotient l x some whole in
    let many : length digests ≡ suc k.0 * 64 =
    ap length are ∙ length-range_digests old.shared (next_leaf_index old) false x
    ∙ ap (λ n. n * 64) (leaf_count-is_quotient l x some whole ∙ k.1) in
    let leaves : length digests / 64 ≡ suc k.0 = omega (arith, many) in
    ap (λ n. n * l) leaves ∙ sym k.2

-- No digests are no leaves.
no_digests-no_leaf_bytes : (d l : ℕ) → d ≡ 0 → d / 64 * l ≡ 0
no_digests-no_leaf_bytes d l none = rw none (omega arith)

-- Whole leaves after whole leaves are whole leaves.
AreWholeLeaves-append : (size : ℕ) (x y : List ℕ) → 0 < size → AreWholeLeaves size x
    → AreWholeLeaves size y
    → AreWholeLeaves size (x ++ y)
AreWholeLeaves-append size x y some whole_x whole_y =
    let i = AreWholeLeaves-leaf_quotient size x some whole_x in
    let k = AreWholeLeaves-leaf_quotient size y some whole_y in
    let both : length (x ++ y) ≡ (suc i.0 + suc k.0) * size =
    omega (arith, length-append x y, i.2, k.2) in
    record {
      some = omega (arith, length-append x y, whole_x.some);
      whole = ap (λ n. n % size) both ∙ mul-mod_left (suc i.0 + suc k.0) size;
    }

-- Ranges of whole leaves are whole leaves, and their digests, joined, are those of all of them.
joined_range_digests-of_concat : (s : TreeParameters) (first : ℕ) (x : List ℕ) (xs : List (List ℕ))
    → 0 < s.leaf_length → All (AreWholeLeaves s.leaf_length) (x ∷ xs)
    → AreWholeLeaves s.leaf_length (concat (x ∷ xs))
    × (joined_range_digests s first (x ∷ xs) ≡ range_digests s first false (concat (x ∷ xs)))
joined_range_digests-of_concat s first x [] some whole =
    let is_whole : AreWholeLeaves s.leaf_length x = whole 0 [] (omega arith) in
    let same : x ++ [] ≡ x = append-nil x in (
      subst (AreWholeLeaves s.leaf_length) (sym same) is_whole,
      append-nil (range_digests s first false x) ∙ ap (range_digests s first false) (sym same),
    )
joined_range_digests-of_concat s first x (y ∷ ys) some whole =
    let is_whole : AreWholeLeaves s.leaf_length x = whole 0 [] (omega arith) in
    let next : ℕ = first + length x / s.leaf_length in
    let rest = joined_range_digests-of_concat s next y ys some
    (λ k d below. whole (suc k) d (omega arith)) in (
      AreWholeLeaves-append s.leaf_length x (concat (y ∷ ys)) some is_whole rest.0,
      ap (λ d. range_digests s first false x ++ d) rest.1
          ∙ sym (range_digests-append_whole_leaves s first false x (concat (y ∷ ys)) some is_whole
          rest.0.some),
    )

-- What holds of one range holds of several.
HasAbsorbed-several_ranges : (old new : OpenTree) (digests input : List ℕ)
    → 0 < old.shared.leaf_length
    → (digests ≡ [] → HasAbsorbed old input new)
    → ((x : List ℕ) → AreWholeLeaves old.shared.leaf_length x
    → digests ≡ range_digests old.shared (next_leaf_index old) false x
    → HasAbsorbed old (x ++ input) new)
    → (xs : List (List ℕ)) → All (AreWholeLeaves old.shared.leaf_length) xs
    → digests ≡ joined_range_digests old.shared (next_leaf_index old) xs
    → HasAbsorbed old (concat xs ++ input) new
HasAbsorbed-several_ranges old new digests input some none leaves [] whole are = none are
HasAbsorbed-several_ranges old new digests input some none leaves (x ∷ xs) whole are =
    let all = joined_range_digests-of_concat old.shared (next_leaf_index old) x xs some whole in
    leaves (concat (x ∷ xs)) all.0 (are ∙ all.1)

-- Without digests the tree absorbs only the input.
pub HasAbsorbedDigests-no_digests : {old new : OpenTree} {digests input : List ℕ}
    → length digests ≡ 0
    → HasAbsorbed old input new → HasAbsorbedDigests old digests input new
HasAbsorbedDigests-no_digests {old} {new} {digests} {input} nothing took = record {
  shared = took.shared;
  none = λ _. took;
  root = λ more. absurd (omega (arith, more, nothing));
  count = omega (
    arith,
    took.count,
    no_digests-no_leaf_bytes (length digests) old.shared.leaf_length
        nothing,
  );
}

pub HasAbsorbedLeaves-no_digests : {old new : OpenTree} {digests input : List ℕ}
    → 0 < old.shared.leaf_length
    → length digests ≡ 0 → HasAbsorbed old input new → HasAbsorbedLeaves old digests input new
HasAbsorbedLeaves-no_digests {old} {new} {digests} {input} some nothing took =
    let none : length digests / 64 * old.shared.leaf_length ≡ 0 =
    no_digests-no_leaf_bytes (length digests) old.shared.leaf_length nothing in
    let leaves : (x : List ℕ) → AreWholeLeaves old.shared.leaf_length x
    → digests ≡ range_digests old.shared (next_leaf_index old) false x
    → HasAbsorbed old (x ++ input) new =
    λ x whole are. absurd (omega (
      arith,
      whole.some,
      none,
      length-leaves_of_digests old digests x some whole are,
    )) in
    record {
      shared = took.shared;
      none = λ _. took;
      leaves = leaves;
      ranges = HasAbsorbed-several_ranges old new digests input some (λ _. took) leaves;
      count = omega (arith, took.count, none);
    }

-- Bytes follow digests that a tree accepts.
AcceptsLeafDigests-input_is_nonempty : (old : OpenTree) (d n : ℕ) → AcceptsLeafDigests old d n
    → 0 < d → 0 < n
AcceptsLeafDigests-input_is_nonempty old d n accepted more = elim accepted.followed [
  | inl none ↦ absurd (omega (arith, none, more))
  | inr some ↦ some
]

-- The message stays below its limit, after the tree closes a full leaf and absorbs the digests.
pub count_after_digests-below_limit : {old : OpenTree} (begun : OpenTree) {d n : ℕ}
    → AcceptsLeafDigests old d n → 0 < d
    → begun.shared ≡ old.shared → count begun ≡ count old
    → count begun + d / 64 * begun.shared.leaf_length + 1 < 2 ^ 58
count_after_digests-below_limit {old} begun {d} {n} accepted more first counted =
    omega (
      arith,
      ap (λ (s : TreeParameters). d / 64 * s.leaf_length) first,
      counted,
      AcceptsLeafDigests-input_is_nonempty old d n accepted more,
      accepted.fits,
    )

-- The tree closes a full leaf, and absorbs any digests and then the input.
pub HasAbsorbedDigests-after_closed_leaf : {old given new : OpenTree} (begun : OpenTree)
    {digests input : List ℕ}
    → 0 < length digests → ((z : List ℕ) → begun.root z ≡ root_after_leaf_digests old z)
    → begun.closed ≡ next_leaf_index old → begun.shared ≡ old.shared → count begun ≡ count old
    → ((y : List ℕ) → future given y ≡ begun.root
    (digests ++ range_digests begun.shared (begun.closed + length digests / 64) true y))
    → given.shared ≡ begun.shared
    → count given ≡ count begun + length digests / 64 * begun.shared.leaf_length
    → HasAbsorbed given input new → HasAbsorbedDigests old digests input new
HasAbsorbedDigests-after_closed_leaf {old} begun {digests} {input} more begins closed first counted
    takes same counts
    took =
    let k : ℕ = length digests / 64 in
    record {
      shared = took.shared ∙ same ∙ first;
      none = λ nothing. absurd (omega (arith, more, ap length nothing));
      root = λ _ y.
          took.future y ∙ takes (input ++ y)
          ∙ begins (digests ++ range_digests begun.shared (begun.closed + k) true (input ++ y))
          ∙ (λ i. root_after_leaf_digests old
          (digests ++ range_digests (first i) (closed i + k) true (input ++ y)));
      count = took.count ∙ ap (λ (n : ℕ). n + length input)
          (counts ∙ (λ i. counted i + k * (first i).leaf_length));
    }

-- The tree closes a full leaf, and absorbs the digests and then the input.
pub HasAbsorbedLeaves-after_closed_leaf : {old given new : OpenTree} (begun : OpenTree)
    {digests input : List ℕ}
    → 0 < old.shared.leaf_length → AcceptsLeafDigests old (length digests) (length input)
    → 0 < length digests → ((y : List ℕ) → 0 < length y → future begun y ≡ future old y)
    → begun.closed ≡ next_leaf_index old → begun.shared ≡ old.shared → count begun ≡ count old
    → ((x y : List ℕ) → AreWholeLeaves begun.shared.leaf_length x → 0 < length y
    → digests ≡ range_digests begun.shared begun.closed false x
    → future given y ≡ future begun (x ++ y))
    → given.shared ≡ begun.shared
    → count given ≡ count begun + length digests / 64 * begun.shared.leaf_length
    → HasAbsorbed given input new → HasAbsorbedLeaves old digests input new
HasAbsorbedLeaves-after_closed_leaf {old} {given} {new} begun {digests} {input} some accepted more
    begins closed first
    counted takes same counts took =
    let k : ℕ = length digests / 64 in
    let is : count given ≡ count old + k * old.shared.leaf_length =
    counts ∙ (λ i. counted i + k * (first i).leaf_length) in
    let bytes : 0 < length input = AcceptsLeafDigests-input_is_nonempty old (length digests)
    (length input) accepted more in
    let none : digests ≡ [] → HasAbsorbed old input new =
    λ nothing. absurd (omega (arith, ap length nothing)) in
    let leaves : (x : List ℕ) → AreWholeLeaves old.shared.leaf_length x
    → digests ≡ range_digests old.shared (next_leaf_index old) false x
    → HasAbsorbed old (x ++ input) new =
    λ x whole are. record {
      shared = took.shared ∙ same ∙ first;
      future = λ y.
          took.future y
          ∙ takes x (input ++ y)
          (subst (λ (s : TreeParameters). AreWholeLeaves s.leaf_length x) (sym first) whole)
          (omega (arith, length-append input y))
          (are ∙ (λ i. range_digests (sym first i) (sym closed i) false x))
          ∙ begins (x ++ (input ++ y))
          (omega (arith, length-append x (input ++ y), length-append input y))
          ∙ ap (future old) (sym (append_assoc x input y));
      count = omega (
        arith,
        took.count,
        is,
        length-leaves_of_digests old digests x some whole are,
        length-append x input,
      );
    } in
    record {
      shared = took.shared ∙ same ∙ first;
      none = none;
      leaves = leaves;
      ranges = HasAbsorbed-several_ranges old new digests input some none leaves;
      count = omega (arith, took.count, is);
    }
