use Rattle.std.proofs.Common.{◌≡◌, ◌++◌, ◌∷◌, drop}
use Rattle.std.specs.List.{flat_map}
use Rattle.b2sum_commands.specs.Quoting.{escaped_value_byte}
use Rattle.b2sum_commands.proofs.quoting.quoted_value.Given as goal

abbrev pub invariant-loop-byte : goal.invariant-loop-byte
invariant-loop-byte l =
    l.text.items ++ flat_map escaped_value_byte (drop l.byte-index l.value)
    ≡ 39 ∷ flat_map escaped_value_byte l.value
