use Rattle.b2_commands.proofs.ReadBackLeaves.{RootReadsLeaves-holds}
use Rattle.b2_commands.proofs.laws.root_reads_leaves.Goals as goal

pub returns : goal.returns
returns c = RootReadsLeaves-holds
