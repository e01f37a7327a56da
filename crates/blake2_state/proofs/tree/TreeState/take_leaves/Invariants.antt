use Rattle.std.proofs.Common.{◌≡◌, ◌+◌, ℕ, List, ◌++◌, length}
use Rattle.blake2_state.specs.TreeStates.{IsReady, HasEmptyOpenLeaf, parameters, future, count}
use Rattle.blake2_state.proofs.tree.TreeState.take_leaves.Given as goal

-- The open leaf has absorbed nothing, and what is left of the input is still to come.
abbrev pub invariant-loop-self : goal.invariant-loop-self
invariant-loop-self l = record {
  ready : IsReady l.self;
  begun : HasEmptyOpenLeaf l.self;
  size : l.self.root.output_size ≡ l.fn.self.root.output_size;
  shared : parameters l.self ≡ parameters l.fn.self;
  future : (y : List ℕ) → future l.self (l.rest ++ y) ≡ future l.fn.self (l.input ++ y);
  count : count l.self + length l.rest ≡ count l.fn.self + length l.input;
}

-- The bytes that are left.
abbrev pub decreases-loop-self : goal.decreases-loop-self
decreases-loop-self l = length l.rest
