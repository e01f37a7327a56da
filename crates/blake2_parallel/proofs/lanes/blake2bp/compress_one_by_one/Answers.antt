use Rattle.std.proofs.Common.{◌≡◌, ◌<◌, ℕ, List, [], ◌∷◌, length, slice_index, slice_index_or, ◌∙◌}
use Rattle.std.proofs.Common.{arith, rules}
use Rattle.std.specs.Borrow.{Bor}
use Rattle.blake2_simd.specs.Family.{blake2b}
use Rattle.blake2_simd.specs.Lanes.{in_lane}
use Rattle.blake2_simd.proofs.Lanes.{for_each_of_four_lanes, list_of_four-at_lane}
use Rattle.blake2_compress.specs.Hash.{Flags, compress as F}
use Rattle.blake2_compress.specs.Lanes.{flags_at, texts}
use Rattle.blake2_compress.proofs.Lanes.{in_lane-equal_by_words, texts-at}
use Rattle.blake2_parallel.proofs.lanes.blake2bp.compress_one_by_one.Goals as goal

pub returns : goal.returns
returns c j lane =
    let rows : List (List ℕ) = c.args.rows.now in
    let text : ℕ → List ℕ = λ m. slice_index_or (texts c.args.blocks.now) m [] in
    let count : ℕ → ℕ = slice_index c.args.counters.now in
    let flags : ℕ → Flags = flags_at c.args.flags.now in
    let four : length c.args.blocks.now ≡ 4 = search rules in
    let at = λ (m : ℕ) (d : Bor (List ℕ)) (lt : m < 4).
    texts-at c.args.blocks.now m d (omega (arith, four, lt)) in
    let wanted : ℕ → List ℕ = λ m. F blake2b (in_lane m rows) (text m) (count m) (flags m) in
    let done : (m : ℕ) (h b : List ℕ) → h ≡ in_lane m rows → b ≡ text m
    → F blake2b h b (count m) (flags m) ≡ wanted m =
    λ m h b is_lane is_text i. F blake2b (is_lane i) (is_text i) (count m) (flags m) in
    let words : List (List ℕ) = c.compress_one.result ∷ c.compress_one-2.result ∷
    c.compress_one-3.result ∷ c.compress_one-4.result ∷ [] in
    let long =
    for_each_of_four_lanes (λ m. length (slice_index_or words m []) ≡ 8) (search rules)
    (search rules)
    (search rules) (search rules) j lane in
    in_lane-equal_by_words 8 j c.interleave-all.result (slice_index_or words j []) (search rules)
    long
    (λ k lt. c.interleave-all.ensures j k lane lt)
    ∙ list_of_four-at_lane wanted _ _ _ _
    (c.compress_one.ensures ∙ done 0 _ _ c.lane_rows.ensures (at 0 _ (omega arith)))
    (c.compress_one-2.ensures ∙ done 1 _ _ c.lane_rows-2.ensures (at 1 _ (omega arith)))
    (c.compress_one-3.ensures ∙ done 2 _ _ c.lane_rows-3.ensures (at 2 _ (omega arith)))
    (c.compress_one-4.ensures ∙ done 3 _ _ c.lane_rows-4.ensures (at 3 _ (omega arith)))
    j lane
