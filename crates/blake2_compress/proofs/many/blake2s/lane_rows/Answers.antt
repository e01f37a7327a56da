use Rattle.std.proofs.Common.{◌≡◌, ℕ, List, [], length, slice_index_or, sym, ap, ◌∙◌, arith, rules}
use Rattle.std.proofs.lemmas.List.{get_or_default}
use Rattle.blake2_compress.proofs.Lanes.{in_lane-equal_by_words}
use Rattle.blake2_compress.proofs.many.blake2s.lane_rows.Goals as goal

pub returns : goal.returns
returns c =
    let rows : List (List ℕ) = c.args.rows.now in
    let words : List (List ℕ) = c.transpose-words.result in
    let j : ℕ = c.args.j in
    let long : length rows ≡ 8 = search rules in
    let many : length words ≡ 8 = search rules in
    let wide : length c.to_array.result ≡ 8 = search rules in
    let is : c.to_array.result ≡ slice_index_or words j [] =
    c.to_array.ensures ∙ get_or_default words j _ [] (omega (arith, many, c.requires)) in
    c.to_rows.ensures ∙ is
    ∙ sym (in_lane-equal_by_words 8 j rows (slice_index_or words j []) long
    (sym (ap length is) ∙ wide)
    (λ k lt. sym (c.transpose-words.ensures k j lt c.requires)))
