use Rattle.std.proofs.Common.{rules, sym, ◌∙◌, ◌≡◌, ap, ◌*◌, length}
use Rattle.std.specs.List.{concat}
use Rattle.blake2_tree.specs.NodeViews.{shared_parameters, digests_of_four_leaves}
use Rattle.blake2_tree.proofs.FourLeaves.{range_digests-last_four}
use Rattle.blake2_tree.proofs.nodes.Nodes.write_last.Goals as goal

pub returns-then-bytes-four_leaves : goal.returns-then-bytes-four_leaves
returns-then-bytes-four_leaves c =
    let nodes = c.args.self.now in
    let s = shared_parameters nodes in
    let bytes = c.args.bytes.now in
    let whole : length bytes ≡ 4 * nodes.leaf_length = search rules in
    let digests : c.hash_four.result ≡ digests_of_four_leaves s c.args.first c.args.ends bytes =
    search rules in
    c.copy_from_slice.ensures.after
    ∙ c.as_flattened.ensures.value
    ∙ ap concat digests
    ∙ sym (range_digests-last_four s c.args.first c.args.ends bytes nodes.some_length whole)
