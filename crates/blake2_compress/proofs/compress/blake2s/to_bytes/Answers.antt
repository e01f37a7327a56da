-- Made by tools/twins.py from proofs/compress/blake2b/to_bytes/Answers.antt.
use Rattle.std.proofs.Common.{◌∙◌}
use Rattle.blake2_simd.specs.Family.{blake2s}
use Rattle.blake2_compress.proofs.RowBytes.{put_mid-two_rows}
use Rattle.blake2_compress.proofs.compress.blake2s.to_bytes.Goals as goal

pub returns : goal.returns
returns c =
    put_mid-two_rows blake2s c.args.rows.now _ _ _ _ c.type_inv.rows
    (c.copy_from_slice.ensures.after ∙ c.to_bytes.ensures)
    (c.copy_from_slice-2.ensures.after ∙ c.to_bytes-2.ensures)
    c.copy_from_slice.ensures.len c.copy_from_slice-2.ensures.len
