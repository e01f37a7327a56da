use Rattle.std.proofs.Common.{◌≡◌, take, map, Ok}
use Rattle.std.specs.String.{string_bytes}
use Rattle.b2_commands.specs.ReadOptions.{given_options}
use Rattle.b2_commands.specs.ArgumentTasks.{nothing_given, with_options}
use Rattle.b2_commands.proofs.arguments.Options.from_words.Given as goal

abbrev pub invariant-loop-word : goal.invariant-loop-word
invariant-loop-word l = with_options l.takes_key nothing_given
    (map string_bytes (take l.word-index l.words)) ≡ Ok (given_options l.options)
