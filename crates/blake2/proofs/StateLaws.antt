-- The contracts of constructors, updates, resets and finalizations, from the states that they
-- leave.
use Rattle.std.proofs.Common.{◌≡◌, ℕ, ◌+◌, ◌-◌, ◌*◌, ◌^◌, ◌<◌, ◌≤◌, List, [], ◌++◌, length, take}
use Rattle.std.proofs.Common.{Bool, Option, Some, None, refl, sym, ap, ◌∙◌, arith, zero-add}
use Rattle.std.proofs.Common.{append-nil, append_assoc, length-append, rules}
use Rattle.std.proofs.lemmas.List.{take_all}
use Rattle.blake2_simd.specs.Family.{Family, blake2b, blake2s, block_bytes, key_bytes}
use Rattle.blake2_compress.specs.Hash.{Tree, final, first_blocks, chain, last_chain, block_count}
use Rattle.blake2_compress.specs.Hash.{key_size}
use Rattle.blake2_compress.specs.Hash.{key_block, digest}
use Rattle.blake2_compress.proofs.ByteSizes.{length-padded}
use Rattle.blake2_compress.proofs.ParameterSizes.{key_and_output_bytes-fit_byte}
use Rattle.blake2_digest.specs.Blocks.{compressed_blocks, pending_bytes}
use Rattle.blake2_digest.specs.States.{Meaning, Updated, Fresh, LastNodeFlagSet}
use Rattle.blake2_digest.proofs.Cutting.{compressed_and_pending-length, length-compressed_blocks}
use Rattle.blake2_digest.proofs.Cutting.{length-pending_bytes}
use Rattle.blake2.specs.Cores.{CoreState, node_parameters, absorbed, last_output}
use Rattle.blake2.specs.States.{tail, State, future, started, count, start_count, meaning_by}
use Rattle.blake2.specs.States.{unflagged, fresh, node_set, node_digest_of}
use Rattle.blake2.specs.CoreLaws.{count-absorbed}
use Rattle.blake2.proofs.Streaming.{tail-after_compressed_blocks}

-- A state after it absorbs x: the core has absorbed what the buffer passes on.
abbrev pub state_after_update : Family → State → List ℕ → State
state_after_update f s x = record s {
  core = absorbed f s.core (compressed_blocks (block_bytes f) (s.pending ++ x));
  pending = pending_bytes (block_bytes f) (s.pending ++ x);
}

-- States with equal parts are equal.
pub states-equal_by_parts : {s t : State} → s.core ≡ t.core → s.pending ≡ t.pending
    → s.start_block ≡ t.start_block → s ≡ t
states-equal_by_parts core pending start_block =
    λ i. record { core = core i; pending = pending i; start_block = start_block i }

-- ---- updates

pub block_bytes-positive : (f : Family) → 0 < block_bytes f
block_bytes-positive blake2b = omega arith
block_bytes-positive blake2s = omega arith

pub count-updated : (f : Family) (s : State) (x : List ℕ)
    → count (state_after_update f s x) ≡ count s + length x
count-updated f s x =
    omega (
      arith,
      count-absorbed f s.core (compressed_blocks (block_bytes f) (s.pending ++ x)),
      compressed_and_pending-length (block_bytes f) (s.pending ++ x) (block_bytes-positive f),
      length-append s.pending x,
    )

-- An update satisfies its contract.
pub Updated_by : {S : Type 0} (f : Family) (n : ℕ) (state_of : S → State) (old : S) (x : List ℕ)
    (new : S)
    → state_of new ≡ state_after_update f (state_of old) x
    → Updated (meaning_by f n state_of) old x new
unfolding future started absorbed
Updated_by f n state_of old x new e = record {
  future = λ flag y.
      let s : State = state_of old in
      let moved = tail-after_compressed_blocks f (final flag) s.core (s.pending ++ x) y in
      let assoc = ap (λ (z : List ℕ). tail f s.core.h s.core.count z (final flag))
      (append_assoc s.pending x y) in
      ap (λ s. future f n s flag y) e ∙ ap (take n) (moved ∙ assoc);
  started = λ flag y. ap (λ s. started f n s flag y) e;
  last_node = ap (λ s. s.core.last_node) e;
  count = ap count e ∙ count-updated f (state_of old) x;
  start_count = ap start_count e;
}

-- ---- one block is left for the finalization

-- All blocks of the counted bytes except one are compressed.
abbrev pub IsLazy : Family → State → Type 0
IsLazy f s = s.core.count ≡ block_bytes f * (block_count f (count s) - 1)

pub pending-within_block : (f : Family) (s : State) (x : List ℕ)
    → length (state_after_update f s x).pending ≤ block_bytes f
pending-within_block f s x =
    length-pending_bytes (block_bytes f) (s.pending ++ x) (block_bytes-positive f)

pub IsLazy-updated : (f : Family) (s : State) (x : List ℕ) → IsLazy f s
    → IsLazy f (state_after_update f s x)
IsLazy-updated blake2b s x h =
    omega (
      arith,
      count-absorbed blake2b s.core (compressed_blocks 128 (s.pending ++ x)),
      compressed_and_pending-length 128 (s.pending ++ x) (omega arith),
      length-append s.pending x,
      length-pending_bytes 128 (s.pending ++ x) (omega arith),
      length-compressed_blocks 128 (s.pending ++ x),
    )
IsLazy-updated blake2s s x h =
    omega (
      arith,
      count-absorbed blake2s s.core (compressed_blocks 64 (s.pending ++ x)),
      compressed_and_pending-length 64 (s.pending ++ x) (omega arith),
      length-append s.pending x,
      length-pending_bytes 64 (s.pending ++ x) (omega arith),
      length-compressed_blocks 64 (s.pending ++ x),
    )

-- What holds for every hasher and MAC holds after an update.
pub invariants-after_update : (f : Family) (s new : State) (x : List ℕ)
    → new ≡ state_after_update f s x → IsLazy f s
    → count s + length x < 2 ^ 64
    → (length new.pending ≤ block_bytes f) × (count new < 2 ^ 64) × IsLazy f new
invariants-after_update f s new x e one_left fits =
    rw e (
      pending-within_block f s x,
      omega (arith, count-updated f s x),
      IsLazy-updated f s x
          one_left,
    )

-- ---- constructors

-- A constructor satisfies its contract: the digests are BLAKE2.
pub Fresh_by : {S : Type 0} (f : Family) (n : ℕ) (state_of : S → State) (salt persona : List ℕ)
    (key : Option (List ℕ)) (tree : Tree) (counted : ℕ) (new : S)
    → length (key_block f key) ≡ counted → state_of new
    ≡ fresh f (node_parameters n (key_size key) salt persona tree) key
    → Fresh (meaning_by f n state_of) (node_digest_of f n salt persona key tree) counted new
unfolding future started digest
Fresh_by f n state_of salt persona key tree counted new counts e = record {
  future = λ flag y. ap (λ s. future f n s flag y) e;
  started = λ flag y. ap (λ s. started f n s flag y) e;
  last_node = ap (λ s. s.core.last_node) e;
  count = ap count e ∙ zero-add (length (key_block f key)) ∙ counts;
  start_count = ap start_count e ∙ counts;
}

-- ---- the last-node flag

-- Setting the flag satisfies its contract.
pub NodeSet_by : {S : Type 0} (f : Family) (n : ℕ) (state_of : S → State) (old : S) (on : Bool)
    (new : S)
    → state_of new ≡ node_set (state_of old) on
    → LastNodeFlagSet (meaning_by f n state_of) old on new
unfolding future started
NodeSet_by f n state_of old on new e = record {
  future = λ flag y. ap (λ s. future f n s flag y) e;
  started = λ flag y. ap (λ s. started f n s flag y) e;
  last_node = ap (λ s. s.core.last_node) e;
  count = ap count e;
  start_count = ap start_count e;
}

-- If the flag is always off, a constructor and an update satisfy their contracts too.
pub Fresh_unflagged : {S : Type 0} (m : Meaning S) (digest : Bool → List ℕ → List ℕ) (counted : ℕ)
    (new : S) → Fresh m digest counted new → Fresh (unflagged m) digest counted new
Fresh_unflagged m digest counted new made = search (rules, made)

-- ---- keys

-- No key counts for nothing, and a key counts for a block.
pub length-key_block_none : (f : Family) → length (key_block f None) ≡ 0
unfolding key_block
length-key_block_none f = refl

pub length-key_block_some : (f : Family) (key : List ℕ) → length key ≤ key_bytes f
    → length (key_block f (Some key)) ≡ block_bytes f
unfolding key_block
length-key_block_some f key fits = length-padded (block_bytes f) key
    (omega (arith, key_and_output_bytes-fit_byte f))

-- ---- finalizations

block_count-one_if_short : (f : Family) (n : ℕ) → n ≤ block_bytes f → block_count f n ≡ 1
block_count-one_if_short blake2b n fits = omega arith
block_count-one_if_short blake2s n fits = omega arith

-- The pending bytes are the whole last block.
pub last_chain-pending : (f : Family) (core : CoreState) (p : List ℕ) → length p ≤ block_bytes f
    → tail f core.h core.count (p ++ []) (final core.last_node) ≡ last_output f core p
unfolding last_chain first_blocks chain
last_chain-pending f core p fits =
    let one : block_count f (length p) ≡ 1 = block_count-one_if_short f (length p) fits in
    let whole : take (block_bytes f) p ≡ p = take_all (block_bytes f) p fits in
    rw (append-nil p, one, whole) refl

-- A finalization satisfies its contract.
pub future-without_more_input : (f : Family) (n : ℕ) (s : State) → length s.pending ≤ block_bytes f
    → take n (last_output f s.core s.pending) ≡ future f n s s.core.last_node []
unfolding future
future-without_more_input f n s fits =
    ap (take n) (sym (last_chain-pending f s.core s.pending fits))

-- The output of a state made of these parts.
pub output_of_pending : (f : Family) (n : ℕ) (core : CoreState) (pending block : List ℕ)
    → length pending ≤ block_bytes f
    → future f n (record { core = core; pending = pending; start_block = block }) core.last_node []
    ≡ take n (last_output f core pending)
output_of_pending f n core pending block fits =
    sym (future-without_more_input f n
    (record { core = core; pending = pending; start_block = block }) fits)
