-- Lists read element by element, and the columns of eight rows.
use Rattle.std.proofs.Common.{◌≡◌, ℕ, ◌<◌, List, [], ◌∷◌, ◌++◌, length, get_or, slice_index}
use Rattle.std.proofs.Common.{slice_index_or, refl, sym, ap, ◌∙◌, arith, inl, inr}
use Rattle.std.proofs.lemmas.List.{append-nil, get_or-map, get_or_past}
use Rattle.std.proofs.lemmas.Bool.{cases_lt}
use Rattle.blake2_simd.specs.Rows.{lane}
use Rattle.blake2_simd.specs.Lanes.{in_lane}
use Rattle.blake2_simd.proofs.Lanes.{tabulate-at, tabulate}

-- The elements of a list of four, each read with a default of its own, before others.
pub four_reads-are_list : {X : Type 0} (xs ys : List X) (d0 d1 d2 d3 : X) → length xs ≡ 4
    → get_or xs 0 d0 ∷ get_or xs 1 d1 ∷ get_or xs 2 d2 ∷ get_or xs 3 d3 ∷ ys ≡ xs ++ ys
four_reads-are_list (a ∷ b ∷ c ∷ d ∷ []) ys d0 d1 d2 d3 long = refl
four_reads-are_list xs ys d0 d1 d2 d3 long = absurd (omega arith)

-- The elements of a list of eight.
pub eight_reads-are_list : {X : Type 0} (xs ys : List X) (d0 d1 d2 d3 d4 d5 d6 d7 : X)
    → length xs ≡ 8
    → get_or xs 0 d0 ∷ get_or xs 1 d1 ∷ get_or xs 2 d2 ∷ get_or xs 3 d3 ∷ get_or xs 4 d4
    ∷ get_or xs 5 d5 ∷ get_or xs 6 d6 ∷ get_or xs 7 d7 ∷ ys ≡ xs ++ ys
eight_reads-are_list (a ∷ b ∷ c ∷ d ∷ e ∷ f ∷ g ∷ h ∷ []) ys d0 d1 d2 d3 d4 d5 d6 d7 long = refl
eight_reads-are_list xs ys d0 d1 d2 d3 d4 d5 d6 d7 long = absurd (omega arith)

-- The eight columns of several rows.
abbrev pub eight_columns : List (List ℕ) → List (List ℕ)
eight_columns rows = tabulate 8 (λ k. in_lane k rows)

-- The columns of eight rows, which are rows of columns.
pub columns-of_transposed_rows : (rows columns : List (List ℕ)) (d0 d1 d2 d3 d4 d5 d6 d7 : List ℕ)
    → length rows ≡ 8
    → columns ≡ eight_columns (get_or rows 0 d0 ∷ get_or rows 1 d1 ∷ get_or rows 2 d2
    ∷ get_or rows 3 d3 ∷ get_or rows 4 d4 ∷ get_or rows 5 d5 ∷ get_or rows 6 d6
    ∷ get_or rows 7 d7 ∷ [])
    → (j k : ℕ) → j < 8 → k < 8 → lane columns k j ≡ lane rows j k
columns-of_transposed_rows rows columns d0 d1 d2 d3 d4 d5 d6 d7 long are j k jl kl =
    ap (λ l. lane l k j) (are ∙ ap eight_columns
    (eight_reads-are_list rows [] d0 d1 d2 d3 d4 d5 d6 d7 long))
    ∙ ap (λ l. slice_index l j) (tabulate-at 8 (λ i. in_lane i (rows ++ [])) [] k kl)
    ∙ rw append-nil (get_or-map (λ (row : List ℕ). slice_index row k) rows j [] 0 (omega arith))

-- The elements l, m, n and o of each of two lists.
abbrev pub select_from_both : ℕ → ℕ → ℕ → ℕ → List ℕ → List ℕ → List ℕ
select_from_both l m n o a b =
    slice_index a l ∷ slice_index a m ∷ slice_index a n ∷ slice_index a o
    ∷ slice_index b l ∷ slice_index b m ∷ slice_index b n ∷ slice_index b o ∷ []

-- What g makes of each of four pairs of lists, and then what h makes of them.
abbrev pub combine_pairs : (List ℕ → List ℕ → List ℕ) → (List ℕ → List ℕ → List ℕ)
    → List (List ℕ) → List (List ℕ) → List (List ℕ)
combine_pairs g h xs ys =
    let at = λ (make : List ℕ → List ℕ → List ℕ) (k : ℕ).
    make (slice_index_or xs k []) (slice_index_or ys k []) in
    at g 0 ∷ at g 1 ∷ at g 2 ∷ at g 3 ∷ at h 0 ∷ at h 1 ∷ at h 2 ∷ at h 3 ∷ []

-- A word in a lane of one of sixteen rows, whose index is given in a list of such indices.
pub scheduled_word-in_lane : (m : List (List ℕ)) (s : List ℕ) (j : ℕ) → length m ≡ 16
    → length s ≡ 16
    → ((k : ℕ) → k < 16 → slice_index s k < 16) → (k : ℕ) (d : List ℕ)
    → slice_index (get_or m (slice_index s k) d) j ≡ slice_index (in_lane j m) (slice_index s k)
scheduled_word-in_lane m s j long all below k d =
    sym (get_or-map (λ (row : List ℕ). slice_index row j) m (slice_index s k) d 0
    (elim (cases_lt k 16) [
      | inl low ↦ omega (arith, below k low)
      | inr past ↦ rw (get_or_past s k 0 (omega arith)) (omega arith)
    ]))
