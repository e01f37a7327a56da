use Rattle.std.proofs.Common.{length}
use Rattle.b2sum_commands.proofs.listed_ahead.listed_names.Given as goal

abbrev pub decreases-line : goal.decreases-line
decreases-line l = length l.rest
