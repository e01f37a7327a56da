use Rattle.std.proofs.Common.{◌≡◌, ◌≤◌, ◌^◌, ℕ, drop, true, false}
use Rattle.b2sum_commands.specs.CommandLine.{decimal_number_from}
use Rattle.b2sum_commands.proofs.values.number_of.Given as goal

abbrev pub invariant-loop-digit : goal.invariant-loop-digit
invariant-loop-digit l =
    (value : ℕ)
    × (decimal_number_from 0 l.digits ≡ decimal_number_from value (drop l.digit-index l.digits))
    × (l.is_large ≡ false → l.number ≡ value) × (l.is_large ≡ true → 2 ^ 64 ≤ value)
