use Rattle.std.proofs.Common.{◌≤◌, ◌++◌, ◌∷◌, [], length, length-append, arith, decimal, rules}
use Rattle.std.proofs.lemmas.Fmt.{length-decimal-le}
use Rattle.b2_commands.proofs.print.Line.add_number.Goals as goal

pub push_decimal-requires : goal.push_decimal-requires
push_decimal-requires c =
    let short : length (decimal c.args.n) ≤ 20 = search (rules, length-decimal-le 20) in
    rw c.push.ensures (omega (arith, short, length-append c.args.self.now (32 ∷ []), c.requires))

pub returns-clause-longer : goal.returns-clause-longer
returns-clause-longer c =
    let short : length (decimal c.args.n) ≤ 20 = search (rules, length-decimal-le 20) in
    rw (c.push_decimal.ensures, c.push.ensures)
    (omega (
      arith,
      short,
      length-append (c.args.self.now ++ 32 ∷ []) (decimal c.args.n),
      length-append c.args.self.now (32 ∷ []),
    ))
