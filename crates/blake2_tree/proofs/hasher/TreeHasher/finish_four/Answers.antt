use Rattle.std.proofs.Common.{◌∙◌}
use Rattle.blake2_tree.proofs.RootsOfCalls.{digest_now-is_future_of_four_leaves}
use Rattle.blake2_tree.proofs.hasher.TreeHasher.finish_four.Goals as goal

pub returns : goal.returns
returns g c =
    c.finalize_fixed.ensures
    ∙ digest_now-is_future_of_four_leaves _ c.args.self.nodes.some_length c.requires.whole
    (c.args.self.opened c.requires.empty) c.hash_four-digests.ensures c.as_flattened.ensures.value
    c.update.ensures c.set_last_node.ensures
