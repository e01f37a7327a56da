-- The contracts of states, from what their calls do to the leaves.
use Rattle.std.proofs.Common.{◌≡◌, ℕ, ◌+◌, ◌*◌, Bool, List, length, refl, ap, ◌∙◌, arith}
use Rattle.blake2_simd.specs.Family.{Family}
use Rattle.blake2_compress.specs.Hash.{start}
use Rattle.blake2_digest.specs.States.{Fresh, ResetToStart, Updated}
use Rattle.blake2_parallel.specs.LeafStates.{Leaves, HasAbsorbed, root_digest_after, total}
use Rattle.blake2_parallel.specs.Parallel.{Settings, digests, parallel_key_count, leaves}
use Rattle.blake2_parallel.specs.Parallel.{parallel_node_parameters}
use Rattle.blake2_parallel.specs.States.{Held, future, parallel_meaning_by, started}
use Rattle.blake2_parallel.proofs.LeafStarts.{AtStart}
use Rattle.blake2_parallel.proofs.RootDigests.{root_digest_after-same_leaves}
use Rattle.blake2_parallel.proofs.RootDigests.{root_digest_after-start}
use Rattle.blake2_parallel.proofs.RootDigests.{root_digest_after-absorbed_input}

-- The leaves took an input, and the rest of the state is the same.
pub Updated-by_absorbing_leaves : {S : Type 0} (f : Family) (held : S → Held) (old new : S)
    (x : List ℕ)
    → (held new).first ≡ (held old).first → (held new).root ≡ (held old).root
    → (held new).size ≡ (held old).size → HasAbsorbed f (held old).leaves x (held new).leaves
    → Updated (parallel_meaning_by f held) old x new
unfolding future started
Updated-by_absorbing_leaves f held old new x first root size took = record {
  future = λ flag y.
      (λ i. root_digest_after f (size i) (root i) (held new).leaves y)
      ∙ root_digest_after-absorbed_input f (held old).size (held old).root (held old).leaves
      (held new).leaves x y took;
  started = λ flag y. (λ i. root_digest_after f (size i) (root i) (first i) y);
  last_node = refl;
  count = took.total;
  start_count = ap (total f) first;
}

-- The leaves are those of a start, and the rest of the state is the same.
pub StartedAgain-if_leaves_at_start : {S : Type 0} (f : Family) (held : S → Held) (old new : S)
    → (held new).first ≡ (held old).first → (held new).root ≡ (held old).root
    → (held new).size ≡ (held old).size
    → ((j : ℕ) → (held new).leaves.words j ≡ (held old).first.words j)
    → (held new).leaves.count ≡ (held old).first.count
    → (held new).leaves.pending ≡ (held old).first.pending
    → ResetToStart (parallel_meaning_by f held) old new
unfolding future started
StartedAgain-if_leaves_at_start f held old new first root size words count pending = record {
  future = λ flag y.
      (λ i. root_digest_after f (size i) (root i) (held new).leaves y)
      ∙ root_digest_after-same_leaves f (held old).size (held old).root (held old).first
      (held new).leaves y words count
      pending;
  started = λ flag y. (λ i. root_digest_after f (size i) (root i) (first i) y);
  last_node = refl;
  count = (λ i. leaves f * count i + length (pending i));
  start_count = ap (total f) first;
}

-- All of the state is at the start of a hash.
pub Fresh-if_all_at_start : {S : Type 0} (f : Family) (held : S → Held) (a : Settings) (new : S)
    → (held new).size ≡ a.size → (held new).root ≡ start f (parallel_node_parameters f a 0 1)
    → AtStart f a (held new).leaves → AtStart f a (held new).first
    → Fresh (parallel_meaning_by f held) (digests f a) (parallel_key_count f a.key) new
unfolding future started
Fresh-if_all_at_start f held a new size root begun first = record {
  future = λ flag y. ap (λ (n : ℕ). root_digest_after f n (held new).root (held new).leaves y) size
      ∙ root_digest_after-start f a (held new).root (held new).leaves y root begun;
  started = λ flag y. ap (λ (n : ℕ). root_digest_after f n (held new).root (held new).first y) size
      ∙ root_digest_after-start f a (held new).root (held new).first y root first;
  last_node = refl;
  count = counts f (held new).leaves begun.count ∙ begun.long;
  start_count = counts f (held new).first first.count ∙ first.long;
}
  where
    counts : (f : Family) (s : Leaves) → s.count ≡ 0 → total f s ≡ length s.pending
    counts f s none = ap (λ (n : ℕ). leaves f * n + length s.pending) none ∙ (omega arith)

-- ---- types that hold a state

pub Updated-by_updated_part : {S T : Type 0} (f : Family) (held : S → Held) (part : T → S)
    (old new : T)
    (x : List ℕ) → Updated (parallel_meaning_by f held) (part old) x (part new)
    → Updated (parallel_meaning_by f (λ t. held (part t))) old x new
Updated-by_updated_part f held part old new x updated = record {
  future = updated.future;
  started = updated.started;
  last_node = refl;
  count = updated.count;
  start_count = updated.start_count;
}

pub StartedAgain-by_restarted_part : {S T : Type 0} (f : Family) (held : S → Held) (part : T → S) (old new : T)
    → ResetToStart (parallel_meaning_by f held) (part old) (part new)
    → ResetToStart (parallel_meaning_by f (λ t. held (part t))) old new
StartedAgain-by_restarted_part f held part old new again = record {
  future = again.future;
  started = again.started;
  last_node = refl;
  count = again.count;
  start_count = again.start_count;
}

pub Fresh-by_fresh_part : {S T : Type 0} (f : Family) (held : S → Held) (part : T → S)
    (digest : Bool → List ℕ → List ℕ) (n m : ℕ) (new : T) → n ≡ m
    → Fresh (parallel_meaning_by f held) digest n (part new)
    → Fresh (parallel_meaning_by f (λ t. held (part t))) digest m new
Fresh-by_fresh_part f held part digest n m new same fresh = record {
  future = fresh.future;
  started = fresh.started;
  last_node = refl;
  count = fresh.count ∙ same;
  start_count = fresh.start_count ∙ same;
}
