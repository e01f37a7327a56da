use Rattle.std.proofs.Common.{◌≡◌, ℕ, List, [], ◌∷◌, length, append-nil, ap, ◌∙◌, rules}
use Rattle.blake2_simd.specs.Lanes.{in_lane}
use Rattle.blake2_simd.proofs.Columns.{eight_reads-are_list}
use Rattle.blake2_parallel.proofs.lanes.blake2bp.to_vectors.Goals as goal

pub returns : goal.returns
returns c j lane =
    let words : List (List ℕ) = c.args.words.now in
    let long : length words ≡ 8 = search rules in
    ap (in_lane j) ((λ i. c.to_vector.ensures i ∷ c.to_vector-2.ensures i ∷ c.to_vector-3.ensures i ∷ c.to_vector-4.ensures i
    ∷ c.to_vector-5.ensures i ∷ c.to_vector-6.ensures i ∷ c.to_vector-7.ensures i ∷ c.to_vector-8.ensures i ∷ [])
    ∙ eight_reads-are_list words [] _ _ _ _ _ _ _ _ long ∙ append-nil words)
