use Rattle.std.proofs.Common.{ap}
use Rattle.blake2.specs.Hashers.{blake2b_meaning}
use Rattle.blake2_tree.specs.NodeViews.{shared_parameters}
use Rattle.blake2_tree.proofs.RootsOfCalls.{HasAbsorbedPrefix-closing_leaf}
use Rattle.blake2_tree.proofs.hasher.TreeHasher.close_leaf.Goals as goal

pub returns : goal.returns
returns g c =
    let old = c.args.self.now in
    let full = c.close_full.ensures in
    HasAbsorbedPrefix-closing_leaf (blake2b_meaning g.row.N) old.root old.nodes.some_length
    old.within_a_leaf
    c.room.ensures (rw c.room.ensures c.requires.more) c.split_at.ensures.front
    c.split_at.ensures.back c.update.ensures full.future (ap shared_parameters full.nodes)
    full.closed full.empty
