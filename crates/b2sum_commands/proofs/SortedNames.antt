-- Names that are sorted.
use Rattle.std.proofs.Common.{◌≡◌, ℕ, ◌+◌, ◌<◌, List, [], ◌∷◌, Vec, Global, length}
use Rattle.std.proofs.Common.{get_or, arith, ap, ◌∙◌, sym, Result, Ok, Err, is_ok, inl, inr}
use Rattle.std.proofs.lemmas.Bool.{cases_lt}
use Rattle.std.proofs.lemmas.Cmp.{lists_total, nat_cmp_total}
use Rattle.std.proofs.lemmas.List.Folds.{list_any_at, list_any_none}
use Rattle.std.proofs.lemmas.List.Sorted.{searchable_from_sorted}
use Rattle.std.proofs.lemmas.Map.Text.{is_eq-slice_cmp}
use Rattle.std.proofs.lemmas.List.{get_or-map, length-map}
use Rattle.std.proofs.lemmas.List.Sorted.{IsPermutation-map}
use Rattle.std.specs.Cmp.Lexicographic.{slice_cmp}
use Rattle.std.specs.List.Sorted.{IsBinarySearchResult, IsPermutation, IsSearchInRange, IsSorted}
use Rattle.std.specs.Ordering.{is_eq, is_lt, nat_cmp}
use Rattle.std.specs.Str.{bytes_eq}
use Rattle.b2sum_commands.specs.FolderChecks.{has_name}
use Rattle.b2sum_commands.proofs.DoneInTurn.{items_of}
use Rattle.b2sum_commands.specs.Folders.{IsSortedPermutation}

-- Names that are sorted, as lists of bytes.
pub names_sorted-as_bytes : (names : List (Vec ℕ Global))
    → IsSorted (λ a b. slice_cmp nat_cmp a.items b.items) names
    → IsSorted (slice_cmp nat_cmp) (items_of names)
names_sorted-as_bytes [] rise = λ k d low below. absurd (omega (arith, below))
names_sorted-as_bytes (first ∷ names) rise = λ k d low below.
    let all : List (Vec ℕ Global) = first ∷ names in
    let size = length-map all (λ (n : Vec ℕ Global). n.items) in
    let item = λ (i : ℕ) (here : i < length all). get_or-map (λ (n : Vec ℕ Global). n.items) all i
    first d here in
    ap (λ (x : List ℕ). is_lt (slice_cmp nat_cmp x (get_or (items_of all) k d)))
    (item (k + 1) (omega (arith, below, size)))
    ∙ ap (λ (x : List ℕ). is_lt (slice_cmp nat_cmp (get_or all (k + 1) first).items x))
    (item k (omega (arith, below, size)))
    ∙ rise k first low (omega (arith, below, size))

pub sorted_permutation-as_bytes : (names sorted : List (Vec ℕ Global)) → IsPermutation names sorted
    → IsSorted (λ a b. slice_cmp nat_cmp a.items b.items) sorted
    → IsSortedPermutation (items_of names) (items_of sorted)
sorted_permutation-as_bytes names sorted same rise = record {
  same = IsPermutation-map (λ (n : Vec ℕ Global). n.items) names sorted same;
  rise = names_sorted-as_bytes sorted rise;
}

-- A binary search in sorted names finds one that is there.
pub binary_search-is_has_name : (names : List (Vec ℕ Global)) (x : Vec ℕ Global) (r : Result ℕ ℕ)
    → IsSorted (λ a b. slice_cmp nat_cmp a.items b.items) names
    → IsSearchInRange r (length names)
    → IsBinarySearchResult (λ y. slice_cmp nat_cmp y.items x.items) names r
    → is_ok r ≡ has_name (items_of names) x.items
binary_search-is_has_name names x (Ok i) sorted below found =
    sym (list_any_at (λ n. bytes_eq n x.items) (items_of names) i x.items
    (omega (arith, below, length-map names (λ (n : Vec ℕ Global). n.items)))
    (ap (λ (n : List ℕ). bytes_eq n x.items)
    (get_or-map (λ (n : Vec ℕ Global). n.items) names i x x.items below)
    ∙ sym (is_eq-slice_cmp (get_or names i x).items x.items) ∙ ap is_eq (found x)))
binary_search-is_has_name names x (Err i) sorted below found =
    let parts = found (searchable_from_sorted (lists_total nat_cmp_total)
    (λ (n : Vec ℕ Global). n.items) names x.items sorted) in
    sym (list_any_none (λ n. bytes_eq n x.items) (items_of names) (λ k d here.
    let inside : k < length names =
    omega (arith, here, length-map names (λ (n : Vec ℕ Global). n.items)) in
    ap (λ (n : List ℕ). bytes_eq n x.items)
    (get_or-map (λ (n : Vec ℕ Global). n.items) names k x d inside)
    ∙ sym (is_eq-slice_cmp (get_or names k x).items x.items)
    ∙ elim (cases_lt k i) [
      | inl before ↦ ap is_eq (parts.0 k x (omega arith) before)
      | inr after ↦ ap is_eq (parts.1 k x after inside)
    ]))
