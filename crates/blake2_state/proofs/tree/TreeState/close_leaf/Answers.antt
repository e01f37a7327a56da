use Rattle.blake2_state.specs.Blake2b.{meaning}
use Rattle.blake2_tree.proofs.RootsOfCalls.{HasAbsorbedPrefix-closing_leaf}
use Rattle.blake2_state.proofs.tree.TreeState.close_leaf.Goals as goal

pub returns-clause-went_on : goal.returns-clause-went_on
returns-clause-went_on c =
    let ready = c.requires.ready in
    let full = c.close_full.ensures in
    HasAbsorbedPrefix-closing_leaf meaning c.args.self.now.root ready.lengths.some
    ready.counts.within_a_leaf
    c.room.ensures (rw c.room.ensures c.requires.more) c.split_at.ensures.front
    c.split_at.ensures.back c.update.ensures.updated full.future full.shared full.closed
    full.begun.empty
