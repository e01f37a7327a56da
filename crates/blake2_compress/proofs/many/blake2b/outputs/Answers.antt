use Rattle.std.proofs.Common.{◌≡◌, List, ℕ, [], ◌∷◌, length, get_or, slice_index_or, take, ap, ◌∙◌}
use Rattle.std.proofs.Common.{arith, rules}
use Rattle.std.proofs.lemmas.List.{get_or_default}
use Rattle.blake2_simd.specs.Family.{blake2b}
use Rattle.blake2_simd.specs.Rows.{chaining_words}
use Rattle.blake2_compress.specs.Hash.{bytes_of, input_data, input_flags, last_chain}
use Rattle.blake2_compress.specs.Lanes.{input_at}
use Rattle.blake2_compress.proofs.Lanes.{in_lane-two_columns}
use Rattle.blake2_compress.proofs.ManyMessages.{HoldsForFirst-all, HoldsForFirst-next}
use Rattle.blake2_compress.proofs.many.blake2b.outputs.Goals as goal

pub loop-j-preserved : goal.loop-j-preserved
loop-j-preserved g c =
    let low = c.transpose-low.result in
    let high = c.transpose-high.result in
    let long_low : length low ≡ 4 = search rules in
    let long_high : length high ≡ 4 = search rules in
    let at : (x : List (List ℕ)) (d : List ℕ) → length x ≡ 4
    → get_or x c.loop-j.j d ≡ slice_index_or x c.loop-j.j [] =
    λ x d long. get_or_default x c.loop-j.j d [] (omega (arith, long, c.loop-j-test.true)) in
    HoldsForFirst-next _ c.loop-j.invariant (omega arith) (c.output.ensures
    ∙ (λ i. take g.row.N (bytes_of blake2b (chaining_words (at low c.index-low-j.result long_low i
    ∷ at high c.index-high-j.result long_high i ∷ [])))))

pub returns : goal.returns
returns g c j lt =
    let h : List (List ℕ) = c.compress_all.new.h in
    let long : length h ≡ 8 = search rules in
    let input = input_at c.args.inputs.now j in
    HoldsForFirst-all c.loop-j.invariant c.loop-j-test.false j lt
    ∙ ap (λ (w : List ℕ). take g.row.N (bytes_of blake2b w))
    (in_lane-two_columns h c.transpose-low.result c.transpose-high.result j _ _ _ _ _ _ _ _ long
    (λ k low. c.transpose-low.ensures k j low lt) (λ k low. c.transpose-high.ensures k j low lt)
    ∙ c.compress_all.ensures j lt ∙ ap (λ (w : List ℕ). last_chain blake2b w 0 (input_data blake2b input)
    (input_flags input)) (c.start_lanes-h.ensures j lt))
