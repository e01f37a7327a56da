use Rattle.std.proofs.Common.{◌++◌, ◌∷◌, [], length-append, arith}
use Rattle.hex.specs.Hex.{encode_lower, lower_digits}
use Rattle.hex.proofs.HexLemmas.{length-encode_with}
use Rattle.b2_commands.proofs.print.Line.add_bytes.Goals as goal

pub returns-clause-longer : goal.returns-clause-longer
returns-clause-longer c =
    let line = c.args.self.now in
    let bytes = c.args.bytes.now in
    rw (c.push_hex.ensures, c.push.ensures)
    (omega (
      arith,
      length-append (line ++ 32 ∷ []) (encode_lower bytes),
      length-append line (32 ∷ []),
      length-encode_with lower_digits bytes,
    ))
