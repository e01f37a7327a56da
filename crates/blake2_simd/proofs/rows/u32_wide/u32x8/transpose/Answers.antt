use Rattle.std.proofs.Common.{◌≡◌, ◌∷◌, [], length, ◌∙◌, rules}
use Rattle.blake2_simd.proofs.Columns.{columns-of_transposed_rows, select_from_both, combine_pairs}
use Rattle.blake2_simd.proofs.rows.u32_wide.u32x8.transpose.Goals as goal

pub returns : goal.returns
returns c =
    let long : length c.args.rows ≡ 8 = search rules in
    let first = c.columns_within-a0.ensures in
    let last = c.columns_within-e0.ensures in
    columns-of_transposed_rows c.args.rows _ _ _ _ _ _ _ _ _ long
    ((λ i. c.low_halves.ensures i ∷ c.low_halves-2.ensures i ∷ c.low_halves-3.ensures i
    ∷ c.low_halves-4.ensures i ∷ c.high_halves.ensures i ∷ c.high_halves-2.ensures i
    ∷ c.high_halves-3.ensures i ∷ c.high_halves-4.ensures i ∷ [])
    ∙ (λ i. combine_pairs (select_from_both 0 1 2 3) (select_from_both 4 5 6 7) (first i) (last i)))
