use Rattle.std.proofs.Common.{◌≡◌, ◌+◌, ℕ, ap, ◌∙◌, length, arith, rules}
use Rattle.blake2_simd.specs.Family.{blake2b}
use Rattle.blake2_simd.proofs.Lanes.{list_of_four-at_lane}
use Rattle.blake2_compress.specs.Hash.{start}
use Rattle.blake2_compress.proofs.Lanes.{in_lane-equal_by_words}
use Rattle.blake2_compress.proofs.ParameterSizes.{length-start}
use Rattle.blake2_xof.specs.Blake2xb.{settings_of}
use Rattle.blake2_xof.specs.Xof.{block_parameters}
use Rattle.blake2_xof.proofs.reader.blake2xb.Reader.four_rows.Goals as goal

pub returns : goal.returns
returns c j lane =
    let i : ℕ = c.args.i in
    let first : i ≡ i + 0 = omega arith in
    let of = λ (k : ℕ). start blake2b (block_parameters blake2b (settings_of c.args.self.now) k) in
    let words = list_of_four-at_lane (λ k. of (i + k)) _ _ _ _
    (c.to_words.ensures ∙ c.block_start_rows.ensures ∙ ap of first)
    (c.to_words-2.ensures ∙ c.block_start_rows-2.ensures)
    (c.to_words-3.ensures ∙ c.block_start_rows-3.ensures)
    (c.to_words-4.ensures ∙ c.block_start_rows-4.ensures) j lane in
    in_lane-equal_by_words 8 j c.interleave.result _ (search rules)
    (ap length words ∙ length-start blake2b _)
    (λ k lt. c.interleave.ensures j k lane lt) ∙ words
