use Rattle.std.proofs.Common.{◌≡◌, ◌++◌, length}
use Rattle.text_lines.specs.Cuts.{lines_of}
use Rattle.b2sum_commands.proofs.DoneInTurn.{items_of}
use Rattle.b2sum_commands.specs.FolderChecks.{entry_names_of_lines}
use Rattle.b2sum_commands.proofs.folder_checks.sorted_names.Given as goal

abbrev pub invariant-line : goal.invariant-line
invariant-line l =
    items_of l.names.items ++ entry_names_of_lines l.options l.is_input l.spacing (lines_of l.rest)
    ≡ entry_names_of_lines l.options l.is_input l.fn.spacing (lines_of l.fn.text)

abbrev pub decreases-line : goal.decreases-line
decreases-line l = length l.rest
