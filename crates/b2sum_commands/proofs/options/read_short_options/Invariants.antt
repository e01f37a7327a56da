use Rattle.std.proofs.Common.{◌≡◌, drop}
use Rattle.b2sum_commands.specs.CommandLine.{read_letters}
use Rattle.b2sum_commands.specs.CommandLineViews.{choice_of_reader}
use Rattle.b2sum_commands.proofs.options.read_short_options.Given as goal

abbrev pub invariant-loop-i : goal.invariant-loop-i
invariant-loop-i l =
    read_letters (choice_of_reader l.initial.reader) l.letters
    ≡ read_letters (choice_of_reader l.reader) (drop l.i l.letters)
