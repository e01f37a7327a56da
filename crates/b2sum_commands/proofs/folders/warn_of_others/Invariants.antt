use Rattle.b2sum_commands.proofs.WalkedFolders.{OthersAreToldUpTo}
use Rattle.b2sum_commands.proofs.folders.warn_of_others.Given as goal

abbrev pub invariant-loop-name : goal.invariant-loop-name
invariant-loop-name g l =
    OthersAreToldUpTo l.program.name.items l.names l.name-index l.fn.session l.session
