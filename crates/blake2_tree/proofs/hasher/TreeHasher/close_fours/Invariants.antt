use Rattle.std.proofs.Common.{◌≡◌, ℕ, ◌+◌, List, ◌++◌, length}
use Rattle.blake2.specs.Hashers.{blake2b_meaning}
use Rattle.blake2_tree.specs.TreeHashers.{future, count}
use Rattle.blake2_tree.proofs.hasher.TreeHasher.close_fours.Given as goal

-- The open leaf is empty, and what is left of the input is still to come.
abbrev pub invariant-loop-rest : goal.invariant-loop-rest
invariant-loop-rest g l = record {
  future : (y : List ℕ) → future l.self (l.rest ++ y) ≡ future l.fn.self (l.input ++ y);
  count : count l.self + length l.rest ≡ count l.fn.self + length l.input;
  empty : (blake2b_meaning 64).count l.self.leaf ≡ 0;
}

-- The bytes that are left.
abbrev pub decreases-loop-rest : goal.decreases-loop-rest
decreases-loop-rest g l = length l.rest
