use Rattle.std.proofs.Common.{sym, arith}
use Rattle.std.proofs.lemmas.List.{length-take-le}
use Rattle.blake2_simd.specs.Family.{blake2b}
use Rattle.blake2_compress.proofs.LoadedRows.{words_of-eight}
use Rattle.blake2_compress.proofs.params.blake2b.block_rows.Goals as goal

pub returns : goal.returns
returns c = rw (c.from_le_bytes.ensures, c.from_le_bytes-2.ensures)
    (words_of-eight blake2b c.args.block.now)

pub slice_bounds-from_le_bytes-end : goal.slice_bounds-from_le_bytes-end
slice_bounds-from_le_bytes-end c = sym (length-take-le 32 c.args.block.now (omega arith))

pub from_le_bytes-requires : goal.from_le_bytes-requires
from_le_bytes-requires c = length-take-le 32 c.args.block.now (omega arith)
