use Rattle.std.proofs.Common.{◌≡◌, drop, map}
use Rattle.b2sum_commands.specs.CommandLine.{read_words}
use Rattle.b2sum_commands.specs.CommandLineViews.{state_of_reader}
use Rattle.b2sum_commands.proofs.options.read_words.Given as goal

abbrev pub invariant-loop-word : goal.invariant-loop-word
invariant-loop-word l =
    read_words (state_of_reader l.initial.reader (map (λ name. name.items) l.initial.files.items)
    l.initial.next) (map (λ word. word.items) l.words)
    ≡ read_words (state_of_reader l.reader (map (λ name. name.items) l.files.items) l.next)
    (map (λ word. word.items) (drop l.word-index l.words))
