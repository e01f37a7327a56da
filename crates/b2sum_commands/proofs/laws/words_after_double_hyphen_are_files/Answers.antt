use Rattle.b2sum_commands.proofs.CommandLines.{words_after_double_hyphen_are_files as law}
use Rattle.b2sum_commands.proofs.laws.words_after_double_hyphen_are_files.Goals as goal

pub returns : goal.returns
returns c = law
