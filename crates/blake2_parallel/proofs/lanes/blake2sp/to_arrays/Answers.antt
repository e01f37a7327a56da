use Rattle.std.proofs.Common.{◌≡◌, ℕ, List, [], ◌∷◌, length, append-nil, ap, ◌∙◌, rules}
use Rattle.blake2_simd.specs.Lanes.{in_lane}
use Rattle.blake2_simd.proofs.Columns.{eight_reads-are_list}
use Rattle.blake2_parallel.proofs.lanes.blake2sp.to_arrays.Goals as goal

pub returns : goal.returns
returns c j lane =
    let rows : List (List ℕ) = c.args.rows.now in
    let long : length rows ≡ 8 = search rules in
    ap (in_lane j) ((λ i. c.to_array.ensures i ∷ c.to_array-2.ensures i ∷ c.to_array-3.ensures i
    ∷ c.to_array-4.ensures i ∷ c.to_array-5.ensures i ∷ c.to_array-6.ensures i
    ∷ c.to_array-7.ensures i ∷ c.to_array-8.ensures i ∷ [])
    ∙ eight_reads-are_list rows [] _ _ _ _ _ _ _ _ long ∙ append-nil rows)
