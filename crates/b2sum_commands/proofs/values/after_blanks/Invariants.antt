use Rattle.std.proofs.Common.{◌≡◌, ◌-◌, ◌≤◌, length, drop}
use Rattle.b2sum_commands.specs.CommandLine.{without_leading_blanks}
use Rattle.b2sum_commands.proofs.values.after_blanks.Given as goal

abbrev pub invariant-blanks : goal.invariant-blanks
invariant-blanks l =
    (l.at ≤ length l.text)
    × (without_leading_blanks l.text ≡ without_leading_blanks (drop l.at l.text))

abbrev pub decreases-blanks : goal.decreases-blanks
decreases-blanks l = length l.text - l.at
