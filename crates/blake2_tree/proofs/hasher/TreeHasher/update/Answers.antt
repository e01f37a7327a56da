use Rattle.std.proofs.Common.{◌∙◌, arith}
use Rattle.blake2.specs.Hashers.{blake2b_meaning}
use Rattle.blake2_tree.specs.TreeHashers.{held_tree}
use Rattle.blake2_tree.proofs.RootsOfCalls.{HasAbsorbed-by_open_leaf, HasAbsorbed-prefix_and_rest}
use Rattle.blake2_tree.proofs.RootsOfCalls.{IsFreshLeaf-after_empty_update}
use Rattle.blake2_tree.proofs.hasher.TreeHasher.update.Goals as goal

pub loop-rest-preserved-then-rest-four_leaves : goal.loop-rest-preserved-then-rest-four_leaves
loop-rest-preserved-then-rest-four_leaves g c = record {
  shared = c.close_next-rest.ensures.went_on.shared ∙ c.loop-rest.invariant.shared;
  future = λ y. c.close_next-rest.ensures.went_on.future y ∙ c.loop-rest.invariant.future y;
  count = c.close_next-rest.ensures.went_on.count ∙ c.loop-rest.invariant.count;
}

pub loop-rest-preserved : goal.loop-rest-preserved
loop-rest-preserved g c = record {
  shared = c.close_leaf-rest.ensures.shared ∙ c.loop-rest.invariant.shared;
  future = λ y. c.close_leaf-rest.ensures.future y ∙ c.loop-rest.invariant.future y;
  count = c.close_leaf-rest.ensures.count ∙ c.loop-rest.invariant.count;
}

pub invariant_of-self-clause-opened : goal.invariant_of-self-clause-opened
invariant_of-self-clause-opened g c =
    IsFreshLeaf-after_empty_update c.loop-rest.self.opened c.update.ensures

pub returns : goal.returns
returns g c =
    let left = c.loop-rest.invariant in
    HasAbsorbed-prefix_and_rest (held_tree c.loop-rest.self) left.shared left.future left.count
    (HasAbsorbed-by_open_leaf (blake2b_meaning g.row.N) c.loop-rest.self.root
    c.update.ensures (omega arith))
