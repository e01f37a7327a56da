use Rattle.std.proofs.Common.{arith}
use Rattle.blake2_state.specs.Blake2b.{meaning}
use Rattle.blake2_tree.proofs.RootsOfCalls.{HasAbsorbed-by_open_leaf}
use Rattle.blake2_state.proofs.tree.TreeState.update.Goals as goal

pub returns-then-input-room-clause-taken : goal.returns-then-input-room-clause-taken
returns-then-input-room-clause-taken c =
    HasAbsorbed-by_open_leaf meaning c.args.self.now.root c.update.ensures.updated (omega arith)
