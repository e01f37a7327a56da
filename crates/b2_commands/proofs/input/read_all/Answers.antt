use Rattle.std.proofs.Common.{[], ◌++◌, rules, take}
use Rattle.std.proofs.KnownBytes.{Consumes-trans, Consumes-all}
use Rattle.b2_commands.proofs.input.read_all.Goals as goal

pub returns-then-filled-lt-PIECE_BYTES-clause-whole :
    goal.returns-then-filled-lt-PIECE_BYTES-clause-whole
returns-then-filled-lt-PIECE_BYTES-clause-whole g c =
    let read = c.in_ok-filled.ensures in
    let bytes = c.reading.bytes.items in
    let piece = take c.in_ok-filled.filled c.fill.new.buffer in
    Consumes-all _ _ (bytes ++ piece) [] _ (Consumes-trans _ _ _ bytes piece
    c.reading.invariant.passed read.bytes) (search rules) (search rules)
