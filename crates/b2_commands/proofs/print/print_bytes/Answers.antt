use Rattle.std.proofs.Common.{arith}
use Rattle.hex.specs.Hex.{lower_digits}
use Rattle.hex.proofs.HexLemmas.{length-encode_with}
use Rattle.b2_commands.proofs.print.print_bytes.Goals as goal

pub print-requires-clause-room : goal.print-requires-clause-room
print-requires-clause-room g c =
    rw (c.push_hex.ensures, c.new-line.ensures)
    (omega (
      arith,
      c.requires.size,
      length-encode_with lower_digits c.args.bytes.now,
    ))
