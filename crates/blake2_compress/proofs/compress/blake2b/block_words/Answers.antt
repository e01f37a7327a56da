use Rattle.blake2_simd.specs.Family.{blake2b}
use Rattle.blake2_compress.proofs.LoadedRows.{words_of-sixteen}
use Rattle.blake2_compress.proofs.compress.blake2b.block_words.Goals as goal

pub returns : goal.returns
returns c =
    rw (
      c.to_array.ensures,
      c.from_le_bytes.ensures,
      c.to_array-2.ensures,
      c.from_le_bytes-2.ensures,
      c.to_array-3.ensures,
      c.from_le_bytes-3.ensures,
      c.to_array-4.ensures,
      c.from_le_bytes-4.ensures,
    )
    (words_of-sixteen blake2b c.args.block.now)
