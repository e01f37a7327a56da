-- Several states side by side, one in each lane: row k has word k of each of them.
use Rattle.std.specs.Prelude.{ℕ, ◌+◌, List, [], ◌∷◌, map, slice_index}

-- The words of the state in lane j.
abbrev pub in_lane : ℕ → List (List ℕ) → List ℕ
in_lane j rows = map (λ (row : List ℕ). slice_index row j) rows

-- The row of eight lanes whose lane j is f j.
abbrev pub eight_lanes : (ℕ → ℕ) → List ℕ
eight_lanes f = f 0 ∷ f 1 ∷ f 2 ∷ f 3 ∷ f 4 ∷ f 5 ∷ f 6 ∷ f 7 ∷ []

-- The columns of four rows of four lanes.
abbrev pub columns_of_four : List ℕ → List ℕ → List ℕ → List ℕ → List (List ℕ)
columns_of_four a b c d =
    let column : ℕ → List ℕ = λ k.
    slice_index a k ∷ slice_index b k ∷ slice_index c k ∷ slice_index d k ∷ [] in
    column 0 ∷ column 1 ∷ column 2 ∷ column 3 ∷ []

-- The columns of four rows of eight lanes, in four lists: column k, followed by column k + 4.
abbrev pub columns_within : List ℕ → List ℕ → List ℕ → List ℕ → List (List ℕ)
columns_within a b c d =
    let column : ℕ → List ℕ → List ℕ = λ k rest.
    slice_index a k ∷ slice_index b k ∷ slice_index c k ∷ slice_index d k ∷ rest in
    let two : ℕ → List ℕ = λ k. column k (column (k + 4) []) in
    two 0 ∷ two 1 ∷ two 2 ∷ two 3 ∷ []

-- The columns of four rows of eight lanes, in four lists of pairs: lanes k of a and b, their lanes
-- k + 4, and then the same of c and d.
abbrev pub columns_in_pairs : List ℕ → List ℕ → List ℕ → List ℕ → List (List ℕ)
columns_in_pairs a b c d =
    let pair : List ℕ → List ℕ → ℕ → List ℕ → List ℕ = λ p q k rest.
    slice_index p k ∷ slice_index q k ∷ rest in
    let column : ℕ → List ℕ = λ k. pair a b k (pair a b (k + 4) (pair c d k (pair c d (k + 4) [])))
    in
    column 0 ∷ column 1 ∷ column 2 ∷ column 3 ∷ []
