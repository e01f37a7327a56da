use Rattle.std.proofs.Common.{arith}
use Rattle.blake2_state.specs.Blake2b.{meaning}
use Rattle.blake2_state.specs.TreeStates.{state_tree}
use Rattle.blake2_tree.proofs.RootsOfCalls.{HasAbsorbed-by_open_leaf, HasAbsorbed-prefix_and_rest}
use Rattle.blake2_state.proofs.tree.TreeState.take_leaves.Goals as goal

pub loop-self-smaller-then-rest-self : goal.loop-self-smaller-then-rest-self
loop-self-smaller-then-rest-self c =
    omega (
      arith,
      c.close_next-rest.ensures.went_on.fewer,
      c.close_next-rest.ensures.begun.empty,
      c.loop-self.invariant.begun.empty,
    )

pub loop-self-smaller : goal.loop-self-smaller
loop-self-smaller c =
    omega (
      arith,
      c.close_leaf-rest.ensures.went_on.fewer,
      c.close_leaf-rest.ensures.begun.empty,
      c.loop-self.invariant.begun.empty,
    )

pub returns-clause-taken : goal.returns-clause-taken
returns-clause-taken c =
    let left = c.loop-self.invariant in
    HasAbsorbed-prefix_and_rest (state_tree c.loop-self.self) left.shared left.future left.count
    (HasAbsorbed-by_open_leaf meaning c.loop-self.self.root c.update.ensures.updated (omega arith))
