use Rattle.std.proofs.Common.{◌≡◌, ◌++◌, drop, false}
use Rattle.b2sum_commands.specs.Quoting.{quoted_bytes}
use Rattle.b2sum_commands.proofs.quoting.push_quoted.Given as goal

abbrev pub invariant-loop-byte : goal.invariant-loop-byte
invariant-loop-byte l =
    l.text.items ++ quoted_bytes l.is_open (drop l.byte-index l.name)
    ≡ l.initial.text.items ++ quoted_bytes false l.name
