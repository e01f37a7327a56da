use Rattle.std.proofs.Common.{◌≡◌, ◌+◌, ◌*◌, ◌++◌, length, take}
use Rattle.blake2.specs.Family.{blake2b}
use Rattle.b2_commands.specs.PrintedLines.{word_fields}
use Rattle.b2_commands.proofs.print.Line.add_words_of_64.Given as goal

abbrev pub invariant-loop-word : goal.invariant-loop-word
invariant-loop-word l = record {
  added : l.self ≡ l.fn.self ++ word_fields blake2b (take l.word-index l.words);
  longer : length l.self ≡ length l.fn.self + 17 * l.word-index;
}
