use Rattle.std.proofs.Common.{rules, arith}
use Rattle.b2sum_commands.proofs.ManifestMessages.{told}
use Rattle.b2sum_commands.proofs.check.warn_if_none.Goals as goal

pub returns : goal.returns
returns g c = told _ _ _ _ _ _ _
    (first_of (search (rules, c.if-not-options.false, c.if-counts-ne0.false), grind (arith)))
    c.in_ok-warn_of_none.ensures
