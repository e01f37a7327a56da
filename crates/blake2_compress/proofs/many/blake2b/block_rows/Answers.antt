use Rattle.std.proofs.Common.{◌≡◌, ◌<◌, ℕ, List, [], length, slice_index_or, ap, ◌∙◌, arith, lit<}
use Rattle.std.proofs.Common.{rules}
use Rattle.std.specs.Borrow.{Bor}
use Rattle.blake2_simd.specs.Family.{blake2b}
use Rattle.blake2_simd.specs.Lanes.{in_lane}
use Rattle.blake2_simd.proofs.Lanes.{list_of_four-at_lane}
use Rattle.blake2_compress.specs.Hash.{words_of}
use Rattle.blake2_compress.specs.Lanes.{texts}
use Rattle.blake2_compress.proofs.ByteSizes.{length-words_of}
use Rattle.blake2_compress.proofs.Lanes.{texts-at}
use Rattle.blake2_compress.proofs.ManyMessages.{in_lane-four_row_lists, sixteen_reads-of_four_lists}
use Rattle.blake2_compress.proofs.many.blake2b.block_rows.Goals as goal

pub returns : goal.returns
returns c j h =
    let blocks = c.args.blocks.now in
    let long : length blocks ≡ 4 = search rules in
    let long_a : length c.interleave_from-a.result ≡ 4 = search rules in
    let long_b : length c.interleave_from-b.result ≡ 4 = search rules in
    let long_c : length c.interleave_from-c.result ≡ 4 = search rules in
    let long_d : length c.interleave_from-d.result ≡ 4 = search rules in
    let read = λ (k : ℕ) (d : Bor (List ℕ)) (lt : k < 4).
    ap (words_of blake2b 16) (texts-at blocks k d (omega arith)) in
    let words = list_of_four-at_lane (λ k. words_of blake2b 16 (slice_index_or (texts blocks) k []))
    _ _ _ _ (c.block_words.ensures ∙ read 0 _ (lit< tt))
    (c.block_words-2.ensures ∙ read 1 _ (lit< tt)) (c.block_words-3.ensures ∙ read 2 _ (lit< tt))
    (c.block_words-4.ensures ∙ read 3 _ (lit< tt)) j h in
    ap (in_lane j) (sixteen_reads-of_four_lists _ _ _ _ _ _ _ _ _ _ _ _ _ _ _ _ _ _ _ _
    long_a long_b long_c long_d)
    ∙ in_lane-four_row_lists j _ _ _ _ _ long_a long_b long_c long_d
    (ap length words ∙ length-words_of blake2b 16 _)
    (λ i lt. c.interleave_from-a.ensures i j lt h) (λ i lt. c.interleave_from-b.ensures i j lt h)
    (λ i lt. c.interleave_from-c.ensures i j lt h) (λ i lt. c.interleave_from-d.ensures i j lt h)
    ∙ words
