use Rattle.std.proofs.Common.{◌≡◌, drop}
use Rattle.b2sum_lines.specs.ManifestLines.{drop_while}
use Rattle.hex.specs.Hex.{is_hex_digit}
use Rattle.b2sum_lines.proofs.cuts.skip_digits.Given as goal

abbrev pub invariant-loop-i : goal.invariant-loop-i
invariant-loop-i l = drop_while is_hex_digit (drop l.i l.text) ≡ drop_while is_hex_digit l.text
