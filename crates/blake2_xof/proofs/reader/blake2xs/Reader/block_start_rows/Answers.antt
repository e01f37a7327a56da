-- Made by tools/twins.py from proofs/reader/blake2xb/Reader/block_start_rows/Answers.antt.
use Rattle.std.proofs.Common.{List, ℕ, ap, ◌∙◌}
use Rattle.blake2_simd.specs.Family.{blake2s, iv}
use Rattle.blake2_compress.specs.Hash.{parameter_words, start, words_of, xor_words}
use Rattle.blake2_xof.proofs.reader.blake2xs.Reader.block_start_rows.Goals as goal

pub returns : goal.returns
unfolding start parameter_words
returns c =
    c.start_of.ensures
    ∙ ap (λ (block : List ℕ). xor_words (iv blake2s) (words_of blake2s 8 block))
    c.parameter_block.ensures
