use Rattle.std.proofs.Common.{◌≡◌, ℕ, ◌*◌, List, length, take, sym, ap, ◌∙◌, rules, arith, false}
use Rattle.std.specs.List.{concat}
use Rattle.std.proofs.lemmas.List.{take_all, take_at, length-take-le}
use Rattle.blake2_tree.specs.LeafRanges.{range_digests}
use Rattle.blake2_tree.specs.NodeViews.{shared_parameters, digests_of_four_leaves, node_digest}
use Rattle.blake2_tree.proofs.FourLeaves.{first_four_leaves-are_range_digests}
use Rattle.blake2_tree.proofs.FourLeaves.{first_eight_leaves-are_range_digests}
use Rattle.blake2_tree.proofs.MessageLeaves.{range_digests-single_leaf}
use Rattle.blake2_tree.proofs.nodes.Nodes.hash_next.Goals as goal

pub returns-then-text-length-clause-digests : goal.returns-then-text-length-clause-digests
returns-then-text-length-clause-digests c =
    let nodes = c.args.self.now in
    let size : length c.copy_from_slice.new.self ≡ 512 = search rules in
    take_all 512 c.copy_from_slice.new.self (omega (arith, size))
    ∙ c.copy_from_slice.ensures.after ∙ c.as_flattened.ensures.value
    ∙ ap concat c.hash_eight.ensures
    ∙ first_eight_leaves-are_range_digests (shared_parameters nodes) c.args.i c.args.text.now
    nodes.some_length
    (omega (arith, c.if-text-length.true))

pub returns-then-lanes-ge4-clause-digests : goal.returns-then-lanes-ge4-clause-digests
returns-then-lanes-ge4-clause-digests c =
    let nodes = c.args.self.now in
    let s = shared_parameters nodes in
    let size : length c.copy_from_slice-then-lanes-ge4.new.self ≡ 256 = search rules in
    let digests : c.hash_four.result ≡ digests_of_four_leaves s c.args.i false c.args.text.now =
    search rules in
    take_at c.copy_from_slice-then-lanes-ge4.new.self _ 256 size
    ∙ c.copy_from_slice-then-lanes-ge4.ensures.after ∙ c.as_flattened-then-lanes-ge4.ensures.value
    ∙ ap concat digests
    ∙ first_four_leaves-are_range_digests s c.args.i c.args.text.now nodes.some_length
    (omega (arith, c.requires.more))

pub returns-else-lanes-ge4-clause-digests : goal.returns-else-lanes-ge4-clause-digests
returns-else-lanes-ge4-clause-digests c =
    let nodes = c.args.self.now in
    let s = shared_parameters nodes in
    let l : ℕ = nodes.leaf_length in
    let text : List ℕ = c.args.text.now in
    let size : length c.copy_from_slice-else-lanes-ge4.new.self ≡ 64 = search rules in
    let is : c.leaf_digest.result ≡ node_digest 64 s c.args.i 0 false (take l text) =
    search rules in
    let one : l ≡ 1 * l = omega arith in
    take_at c.copy_from_slice-else-lanes-ge4.new.self _ 64 size
    ∙ c.copy_from_slice-else-lanes-ge4.ensures.after ∙ is
    ∙ sym (range_digests-single_leaf s c.args.i false (take l text) nodes.some_length
    (omega (arith, length-take-le l text (omega (arith, c.requires.more)))))
    ∙ ap (λ n. range_digests s c.args.i false (take n text)) one
