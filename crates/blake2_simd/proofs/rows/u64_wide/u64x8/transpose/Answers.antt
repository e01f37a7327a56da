use Rattle.std.proofs.Common.{◌≡◌, ◌∷◌, [], length, ◌∙◌, rules}
use Rattle.blake2_simd.proofs.Columns.{columns-of_transposed_rows, select_from_both, combine_pairs}
use Rattle.blake2_simd.proofs.rows.u64_wide.u64x8.transpose.Goals as goal

pub returns : goal.returns
returns c =
    let long : length c.args.rows ≡ 8 = search rules in
    let first = c.columns_in_pairs-a0.ensures in
    let last = c.columns_in_pairs-e0.ensures in
    columns-of_transposed_rows c.args.rows _ _ _ _ _ _ _ _ _ long
    ((λ i. c.even_pairs.ensures i ∷ c.even_pairs-2.ensures i ∷ c.even_pairs-3.ensures i
    ∷ c.even_pairs-4.ensures i ∷ c.odd_pairs.ensures i ∷ c.odd_pairs-2.ensures i
    ∷ c.odd_pairs-3.ensures i ∷ c.odd_pairs-4.ensures i ∷ [])
    ∙ (λ i. combine_pairs (select_from_both 0 1 4 5) (select_from_both 2 3 6 7) (first i) (last i)))
