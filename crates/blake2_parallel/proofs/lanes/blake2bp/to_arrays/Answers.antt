use Rattle.std.proofs.Common.{◌≡◌, ◌<◌, ℕ, List, [], ◌∷◌, length, get_or, slice_index, append-nil}
use Rattle.std.proofs.Common.{ap, ◌∙◌, rules}
use Rattle.blake2_simd.specs.Lanes.{in_lane}
use Rattle.blake2_simd.specs.Rows.{four}
use Rattle.blake2_simd.proofs.Columns.{eight_reads-are_list}
use Rattle.blake2_simd.proofs.Lanes.{for_each_of_four_lanes}
use Rattle.blake2_parallel.proofs.lanes.blake2bp.to_arrays.Goals as goal

-- The lanes of eight rows that are read word by word.
in_lane-of_rows_read_by_word : (rows : List (List ℕ))
    (a0 a1 a2 a3 a4 a5 a6 a7 d0 d1 d2 d3 d4 d5 d6 d7 : List ℕ)
    → length rows ≡ 8
    → a0 ≡ four (λ j. slice_index (get_or rows 0 d0) j)
    → a1 ≡ four (λ j. slice_index (get_or rows 1 d1) j)
    → a2 ≡ four (λ j. slice_index (get_or rows 2 d2) j)
    → a3 ≡ four (λ j. slice_index (get_or rows 3 d3) j)
    → a4 ≡ four (λ j. slice_index (get_or rows 4 d4) j)
    → a5 ≡ four (λ j. slice_index (get_or rows 5 d5) j)
    → a6 ≡ four (λ j. slice_index (get_or rows 6 d6) j)
    → a7 ≡ four (λ j. slice_index (get_or rows 7 d7) j)
    → (j : ℕ) → j < 4 → in_lane j (a0 ∷ a1 ∷ a2 ∷ a3 ∷ a4 ∷ a5 ∷ a6 ∷ a7 ∷ []) ≡ in_lane j rows
in_lane-of_rows_read_by_word rows a0 a1 a2 a3 a4 a5 a6 a7 d0 d1 d2 d3 d4 d5 d6 d7 long e0 e1 e2 e3
    e4 e5 e6 e7 =
    let read : get_or rows 0 d0 ∷ get_or rows 1 d1 ∷ get_or rows 2 d2 ∷ get_or rows 3 d3
    ∷ get_or rows 4 d4 ∷ get_or rows 5 d5 ∷ get_or rows 6 d6 ∷ get_or rows 7 d7 ∷ [] ≡ rows =
    eight_reads-are_list rows [] d0 d1 d2 d3 d4 d5 d6 d7 long ∙ append-nil rows in
    for_each_of_four_lanes (λ j. in_lane j (a0 ∷ a1 ∷ a2 ∷ a3 ∷ a4 ∷ a5 ∷ a6 ∷ a7 ∷ [])
    ≡ in_lane j rows)
    ((λ i. in_lane 0 (e0 i ∷ e1 i ∷ e2 i ∷ e3 i ∷ e4 i ∷ e5 i ∷ e6 i ∷ e7 i ∷ []))
    ∙ ap (in_lane 0) read)
    ((λ i. in_lane 1 (e0 i ∷ e1 i ∷ e2 i ∷ e3 i ∷ e4 i ∷ e5 i ∷ e6 i ∷ e7 i ∷ []))
    ∙ ap (in_lane 1) read)
    ((λ i. in_lane 2 (e0 i ∷ e1 i ∷ e2 i ∷ e3 i ∷ e4 i ∷ e5 i ∷ e6 i ∷ e7 i ∷ []))
    ∙ ap (in_lane 2) read)
    ((λ i. in_lane 3 (e0 i ∷ e1 i ∷ e2 i ∷ e3 i ∷ e4 i ∷ e5 i ∷ e6 i ∷ e7 i ∷ []))
    ∙ ap (in_lane 3) read)

pub returns : goal.returns
returns c = in_lane-of_rows_read_by_word c.args.rows.now _ _ _ _ _ _ _ _ _ _ _ _ _ _ _ _
    (search rules)
    c.to_array.ensures c.to_array-2.ensures c.to_array-3.ensures c.to_array-4.ensures
    c.to_array-5.ensures c.to_array-6.ensures c.to_array-7.ensures c.to_array-8.ensures
