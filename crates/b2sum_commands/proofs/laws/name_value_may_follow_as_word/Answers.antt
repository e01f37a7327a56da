use Rattle.b2sum_commands.proofs.CommandLines.{name_value_may_follow_as_word as law}
use Rattle.b2sum_commands.proofs.laws.name_value_may_follow_as_word.Goals as goal

pub returns : goal.returns
returns c = law
