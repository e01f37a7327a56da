use Rattle.std.proofs.Common.{◌≡◌, ◌≤◌, ◌++◌, drop, length, decimal}
use Rattle.text_lines.proofs.numbers.write_decimal.Given as goal

abbrev pub invariant-digits : goal.invariant-digits
invariant-digits l = record {
  size : length l.out ≡ 20;
  within : l.start ≤ 20;
  digits : decimal l.n ≡ decimal l.rest ++ drop l.start l.out;
}

abbrev pub decreases-digits : goal.decreases-digits
decreases-digits l = l.rest
