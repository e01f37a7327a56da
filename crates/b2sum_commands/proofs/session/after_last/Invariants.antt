use Rattle.std.proofs.Common.{◌≡◌, ◌≤◌, ◌==◌, false, length, drop}
use Rattle.std.specs.List.{list_any}
use Rattle.b2sum_commands.proofs.session.after_last.Given as goal

abbrev pub invariant-part : goal.invariant-part
invariant-part l =
    (l.at ≤ length l.text) × (list_any (λ c. c == l.byte) (drop l.at l.text) ≡ false)

abbrev pub decreases-part : goal.decreases-part
decreases-part l = l.at
