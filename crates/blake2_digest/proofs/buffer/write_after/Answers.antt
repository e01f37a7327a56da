use Rattle.std.proofs.Common.{◌+◌, ◌-◌, length, arith}
use Rattle.std.proofs.lemmas.Slice.{drop-put_mid}
use Rattle.blake2_digest.proofs.buffer.write_after.Goals as goal

pub returns-clause-rest : goal.returns-clause-rest
returns-clause-rest g c =
    let pos = c.args.pos in
    let end = pos + length c.args.input.now in
    drop-put_mid pos (end - pos) c.args.bytes.now c.copy_from_slice.new.self end (omega arith)
    (omega arith) (omega arith)
