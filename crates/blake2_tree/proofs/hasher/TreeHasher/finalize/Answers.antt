use Rattle.std.proofs.Common.{◌∙◌}
use Rattle.blake2_tree.proofs.RootsOfCalls.{digest_now-is_future_of_nothing}
use Rattle.blake2_tree.proofs.hasher.TreeHasher.finalize.Goals as goal

pub returns : goal.returns
returns g c =
    c.finalize_fixed-2.ensures
    ∙ digest_now-is_future_of_nothing _ _ c.set_last_node.ensures (rw
    c.finalize_fixed.ensures at c.update.ensures)
    c.set_last_node-2.ensures
