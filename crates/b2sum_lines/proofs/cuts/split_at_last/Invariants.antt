use Rattle.std.proofs.Common.{◌≡◌, ◌≤◌, length, drop, None}
use Rattle.b2sum_lines.specs.ManifestLines.{split_at_last}
use Rattle.b2sum_lines.proofs.cuts.split_at_last.Given as goal

abbrev pub invariant-searching : goal.invariant-searching
invariant-searching l = record {
  within : l.at ≤ length l.text;
  none : split_at_last l.byte (drop l.at l.text) ≡ None;
}

abbrev pub decreases-searching : goal.decreases-searching
decreases-searching l = l.at
