use Rattle.std.proofs.Common.{◌≡◌, drop}
use Rattle.b2sum_lines.specs.ManifestLines.{drop_while}
use Rattle.std.specs.Char.{is_ascii_digit}
use Rattle.b2sum_lines.proofs.cuts.skip_decimals.Given as goal

abbrev pub invariant-loop-i : goal.invariant-loop-i
invariant-loop-i l = drop_while is_ascii_digit (drop l.i l.text) ≡ drop_while is_ascii_digit l.text
