use Rattle.std.proofs.Common.{◌≡◌, ◌+◌, length, map}
use Rattle.text_lines.specs.Cuts.{lines_of}
use Rattle.b2_commands.specs.ReadScripts.{call_value}
use Rattle.b2_commands.specs.Scripts.{calls_of_lines, script_calls}
use Rattle.b2_commands.proofs.LineLemmas.{prepend_calls}
use Rattle.b2_commands.proofs.script_lines.read_script.Given as goal

abbrev pub invariant-lines : goal.invariant-lines
invariant-lines l =
    script_calls l.text ≡ prepend_calls (map call_value l.script.items)
    (calls_of_lines (length l.script.items + 1) (lines_of l.rest))

abbrev pub decreases-lines : goal.decreases-lines
decreases-lines l = length l.rest
