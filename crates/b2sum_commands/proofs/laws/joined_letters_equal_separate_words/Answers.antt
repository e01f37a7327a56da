use Rattle.b2sum_commands.proofs.CommandLines.{joined_letters_equal_separate_words as law}
use Rattle.b2sum_commands.proofs.laws.joined_letters_equal_separate_words.Goals as goal

pub returns : goal.returns
returns c = law
