use Rattle.std.proofs.Common.{◌≡◌, drop}
use Rattle.std.specs.List.{list_any}
use Rattle.b2sum_commands.specs.Quoting.{is_shell_special}
use Rattle.b2sum_commands.proofs.quoting.has_shell_special.Given as goal

abbrev pub invariant-loop-byte : goal.invariant-loop-byte
invariant-loop-byte l = list_any is_shell_special (drop l.byte-index l.name)
    ≡ list_any is_shell_special l.name
