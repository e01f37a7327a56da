use Rattle.std.proofs.Common.{◌≡◌, ℕ, List, [], ◌∷◌, length, get_or, slice_index_or, ◌∙◌}
use Rattle.std.proofs.Common.{arith, rules}
use Rattle.std.proofs.lemmas.List.{get_or_default}
use Rattle.blake2_simd.specs.Rows.{chaining_words}
use Rattle.blake2_compress.proofs.Lanes.{in_lane-two_columns}
use Rattle.blake2_compress.proofs.many.blake2b.lane_rows.Goals as goal

pub returns : goal.returns
returns c =
    let rows : List (List ℕ) = c.args.rows.now in
    let j : ℕ = c.args.j in
    let low = c.transpose-low.result in
    let high = c.transpose-high.result in
    let long : length rows ≡ 8 = search rules in
    let long_low : length low ≡ 4 = search rules in
    let long_high : length high ≡ 4 = search rules in
    let at : (x : List (List ℕ)) (d : List ℕ) → length x ≡ 4 → get_or x j d ≡ slice_index_or x j [] =
    λ x d four. get_or_default x j d [] (omega (arith, four, c.requires)) in
    (λ i. chaining_words (at low c.index-low-j.result long_low i ∷ at high c.index-high-j.result long_high i
    ∷ []))
    ∙ in_lane-two_columns rows low high j _ _ _ _ _ _ _ _ long
    (λ k lt. c.transpose-low.ensures k j lt c.requires)
    (λ k lt. c.transpose-high.ensures k j lt c.requires)
