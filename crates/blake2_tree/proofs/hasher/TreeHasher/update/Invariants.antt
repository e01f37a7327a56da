use Rattle.std.proofs.Common.{◌≡◌, ℕ, ◌+◌, List, ◌++◌, length}
use Rattle.blake2.specs.Hashers.{blake2b_meaning}
use Rattle.blake2_tree.specs.NodeViews.{shared_parameters}
use Rattle.blake2_tree.specs.TreeHashers.{future, count}
use Rattle.blake2_tree.proofs.hasher.TreeHasher.update.Given as goal

-- What is left of the input is still to come.
abbrev pub invariant-loop-rest : goal.invariant-loop-rest
invariant-loop-rest g l = record {
  shared : shared_parameters l.self.nodes ≡ shared_parameters l.fn.self.nodes;
  future : (y : List ℕ) → future l.self (l.rest ++ y) ≡ future l.fn.self (l.input ++ y);
  count : count l.self + length l.rest ≡ count l.fn.self + length l.input;
}

-- The bytes that are not in closed leaves.
abbrev pub decreases-loop-rest : goal.decreases-loop-rest
decreases-loop-rest g l = (blake2b_meaning 64).count l.self.leaf + length l.rest
