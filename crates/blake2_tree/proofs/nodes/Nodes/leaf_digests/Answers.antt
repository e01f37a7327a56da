use Rattle.std.proofs.Common.{◌≡◌, ◌∙◌, length, rules}
use Rattle.std.proofs.lemmas.List.{take_at}
use Rattle.blake2_tree.specs.NodeViews.{shared_parameters}
use Rattle.blake2_tree.proofs.MessageLeaves.{range_digests-of_whole_message}
use Rattle.blake2_tree.proofs.nodes.Nodes.leaf_digests.Goals as goal

pub returns : goal.returns
returns c =
    let size : length c.write_digests.new.out ≡ c.in_ok-digests.digests.len = search rules in
    take_at c.write_digests.new.out _ c.in_ok-digests.digests.len size
    ∙ c.write_digests.ensures
    ∙ range_digests-of_whole_message (shared_parameters c.args.self.now) c.args.message.now
