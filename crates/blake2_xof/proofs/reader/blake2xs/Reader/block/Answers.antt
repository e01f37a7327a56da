-- Made by tools/twins.py from proofs/reader/blake2xb/Reader/block/Answers.antt.
use Rattle.std.proofs.Common.{◌≡◌, length, sym, arith, rules}
use Rattle.blake2_simd.specs.Family.{blake2s}
use Rattle.blake2_xof.specs.Blake2xs.{settings_of}
use Rattle.blake2_xof.proofs.OutputBlocks.{compressed_words-are_output_block}
use Rattle.blake2_xof.proofs.reader.blake2xs.Reader.block.Goals as goal

pub returns : goal.returns
returns c =
    let self = c.args.self.now in
    let long : length self.root ≡ 32 = search rules in
    compressed_words-are_output_block blake2s (settings_of self) self.root c.args.i 32 _ _ _ _ _
    (omega arith)
    c.block_start_rows-h.ensures c.padded-block.ensures (sym long) c.last_block.ensures c.compress.ensures
    c.to_bytes.ensures
