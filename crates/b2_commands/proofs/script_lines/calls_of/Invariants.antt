use Rattle.std.proofs.Common.{◌≡◌, map, take}
use Rattle.b2_commands.specs.ReadScripts.{call_value, without_address}
use Rattle.b2_commands.proofs.script_lines.calls_of.Given as goal

abbrev pub invariant-loop-call : goal.invariant-loop-call
invariant-loop-call l =
    map without_address l.calls.items ≡ map call_value (take l.call-index l.script)
