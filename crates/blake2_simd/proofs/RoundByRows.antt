-- A round is two half rounds, with the diagonals moved to the columns in between.
use Rattle.std.proofs.Common.{◌≡◌, ℕ, List, [], ◌∷◌, slice_index, refl}
use Rattle.blake2_simd.specs.Family.{Family}
use Rattle.blake2_simd.specs.Round.{mix, round}
use Rattle.blake2_simd.specs.Rows.{work_words, columns, shuffled_rows}

-- The words of m whose indices are at i, j, k and l of s.
abbrev pub scheduled_words : List ℕ → List ℕ → ℕ → ℕ → ℕ → ℕ → List ℕ
scheduled_words m s i j k l =
    slice_index m (slice_index s i) ∷ slice_index m (slice_index s j)
    ∷ slice_index m (slice_index s k) ∷ slice_index m (slice_index s l) ∷ []

-- The columns are mixed, and then the diagonals, which become columns when rows 0, 2 and 3 are
-- moved to the left by 3, 1 and 2 lanes. The diagonal of column 3 comes first there, so its words
-- are picked first.
pub round-as_columns_and_shuffles : (f : Family) (v : List (List ℕ)) (m s : List ℕ)
    → shuffled_rows 1 0 3 2 (columns f
    (shuffled_rows 3 0 1 2 (columns f (work_words v) (scheduled_words m s 0 2
    4 6) (scheduled_words m s 1 3 5 7))) (scheduled_words m s 14 8 10 12)
    (scheduled_words m s 15 9 11 13))
    ≡ round f (work_words v) m s
unfolding mix round columns
round-as_columns_and_shuffles f v m s = refl
