use Rattle.std.proofs.Common.{◌≡◌, ℕ, List, [], ◌∷◌, length, slice_index_or, ap, ◌∙◌, rules}
use Rattle.blake2_simd.specs.Family.{blake2s}
use Rattle.blake2_simd.specs.Lanes.{in_lane}
use Rattle.blake2_simd.proofs.Lanes.{for_each_of_eight_lanes, list_of_eight-at_lane}
use Rattle.blake2_compress.proofs.Lanes.{in_lane-equal_by_words}
use Rattle.blake2_parallel.specs.LeafStates.{leaf_chain}
use Rattle.blake2_parallel.proofs.lanes.blake2sp.compress_by_leaf.Goals as goal

pub returns : goal.returns
returns c j lane =
    let n : ℕ = c.args.count in
    let t : ℕ = c.args.counter in
    let bytes : List ℕ = c.args.bytes.now in
    let rows : List (List ℕ) = c.args.rows.now in
    let words : List (List ℕ) = c.compress_leaf.result ∷ c.compress_leaf-2.result
    ∷ c.compress_leaf-3.result ∷ c.compress_leaf-4.result ∷ c.compress_leaf-5.result
    ∷ c.compress_leaf-6.result ∷ c.compress_leaf-7.result ∷ c.compress_leaf-8.result ∷ [] in
    let long =
    for_each_of_eight_lanes (λ m. length (slice_index_or words m []) ≡ 8) (search rules)
    (search rules)
    (search rules) (search rules) (search rules) (search rules) (search rules) (search rules) j lane
    in
    in_lane-equal_by_words 8 j c.interleave-all.result (slice_index_or words j []) (search rules)
    long
    (λ k lt. c.interleave-all.ensures j k lane lt)
    ∙ list_of_eight-at_lane (λ m. leaf_chain blake2s (in_lane m rows) t bytes m n) _ _ _ _ _ _ _ _
    (c.compress_leaf.ensures ∙ ap (λ h. leaf_chain blake2s h t bytes 0 n) c.lane_rows.ensures)
    (c.compress_leaf-2.ensures ∙ ap (λ h. leaf_chain blake2s h t bytes 1 n) c.lane_rows-2.ensures)
    (c.compress_leaf-3.ensures ∙ ap (λ h. leaf_chain blake2s h t bytes 2 n) c.lane_rows-3.ensures)
    (c.compress_leaf-4.ensures ∙ ap (λ h. leaf_chain blake2s h t bytes 3 n) c.lane_rows-4.ensures)
    (c.compress_leaf-5.ensures ∙ ap (λ h. leaf_chain blake2s h t bytes 4 n) c.lane_rows-5.ensures)
    (c.compress_leaf-6.ensures ∙ ap (λ h. leaf_chain blake2s h t bytes 5 n) c.lane_rows-6.ensures)
    (c.compress_leaf-7.ensures ∙ ap (λ h. leaf_chain blake2s h t bytes 6 n) c.lane_rows-7.ensures)
    (c.compress_leaf-8.ensures ∙ ap (λ h. leaf_chain blake2s h t bytes 7 n) c.lane_rows-8.ensures)
    j lane
