-- What a state of BLAKE2bp or BLAKE2sp means: the digests that it will return.
use Rattle.std.specs.Prelude.{ℕ, false, List}
use Rattle.blake2_simd.specs.Family.{Family}
use Rattle.blake2_digest.specs.States.{Meaning}
use Rattle.blake2_parallel.specs.LeafStates.{Leaves, root_digest_after, total}

-- What a state holds: its leaves, the leaves that a start leaves, the words that the root starts
-- from, and the length of the digest.
pub record Held : Type 0 where
  pub leaves : Leaves
  pub first : Leaves
  pub root : List ℕ
  pub size : ℕ

-- The digest that the state returns after it absorbs y too.
unfoldable pub future : Family → Held → List ℕ → List ℕ
future f s y = root_digest_after f s.size s.root s.leaves y

-- The digest that the state returns for y after a reset.
unfoldable pub started : Family → Held → List ℕ → List ℕ
started f s y = root_digest_after f s.size s.root s.first y

-- The meaning of a type whose values hold a state each. It has no last-node flag of its own, since
-- the hash fixes those of its nodes: a digest does not depend on one.
abbrev pub parallel_meaning_by : {S : Type 0} → Family → (S → Held) → Meaning S
parallel_meaning_by f held_by = record {
  future = λ s last_node. future f (held_by s);
  started = λ s last_node. started f (held_by s);
  last_node = λ s. false;
  count = λ s. total f (held_by s).leaves;
  start_count = λ s. total f (held_by s).first;
}
