use Rattle.std.proofs.Common.{◌≡◌, drop}
use Rattle.b2sum_lines.specs.ManifestLines.{drop_while, is_blank}
use Rattle.b2sum_lines.proofs.cuts.skip_blanks.Given as goal

abbrev pub invariant-loop-i : goal.invariant-loop-i
invariant-loop-i l = drop_while is_blank (drop l.i l.text) ≡ drop_while is_blank l.text
