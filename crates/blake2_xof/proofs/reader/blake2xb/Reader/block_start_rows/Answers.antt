use Rattle.std.proofs.Common.{List, ℕ, ap, ◌∙◌}
use Rattle.blake2_simd.specs.Family.{blake2b, iv}
use Rattle.blake2_compress.specs.Hash.{parameter_words, start, words_of, xor_words}
use Rattle.blake2_xof.proofs.reader.blake2xb.Reader.block_start_rows.Goals as goal

pub returns : goal.returns
unfolding start parameter_words
returns c =
    c.start_of.ensures
    ∙ ap (λ (block : List ℕ). xor_words (iv blake2b) (words_of blake2b 8 block))
    c.parameter_block.ensures
