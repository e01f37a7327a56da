use Rattle.std.proofs.Common.{◌≡◌, drop, map}
use Rattle.std.specs.List.{list_any}
use Rattle.b2sum_commands.specs.Messages.{is_standard_input}
use Rattle.b2sum_commands.proofs.choices.has_dash.Given as goal

abbrev pub invariant-loop-file : goal.invariant-loop-file
invariant-loop-file l =
    list_any is_standard_input (map (λ name. name.items) l.files)
    ≡ list_any is_standard_input (map (λ name. name.items) (drop l.file-index l.files))
