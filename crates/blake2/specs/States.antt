-- What the state of a hasher or a MAC means: the digests that it will return.
use Rattle.std.specs.Prelude.{◌≡◌, ℕ, ◌+◌, Bool, false, List, ◌++◌, length, take, replicate, Option}
use Rattle.blake2_simd.specs.Family.{Family}
use Rattle.blake2_compress.specs.Hash.{Flags, final, bytes_of, last_chain, Parameters, key_block}
use Rattle.blake2_compress.specs.Hash.{Input, Tree, digest, sequential}
use Rattle.blake2.specs.Cores.{CoreState, core_made, core_restarted, core_node_set, core_wiped}
pub use Rattle.blake2_digest.specs.States.{Fresh, Meaning, LastNodeFlagSet, digest_after}

-- A state: the core, the pending bytes, and the start block, which comes before every message. The
-- start block is the padded key block, or empty.
pub record State : Type 0 where
  pub core : CoreState
  pub pending : List ℕ
  pub start_block : List ℕ

-- The bytes of h after the rest z of the data, if c bytes were counted before: the loop and the
-- last call of F in RFC 7693, 3.3.
abbrev pub tail : Family → List ℕ → ℕ → List ℕ → Flags → List ℕ
tail f h c z flags = bytes_of f (last_chain f h c z flags)

-- The digest of n bytes that the state returns after it absorbs y too, under this last-node flag.
unfoldable pub future : Family → ℕ → State → Bool → List ℕ → List ℕ
future f n s last_node y =
    take n (tail f s.core.h s.core.count (s.pending ++ y) (final last_node))

-- The digest of n bytes that the state returns for y after a reset, under this last-node flag.
unfoldable pub started : Family → ℕ → State → Bool → List ℕ → List ℕ
started f n s last_node y =
    take n (tail f s.core.start 0 (s.start_block ++ y) (final last_node))

-- The number of bytes counted since the last start.
abbrev pub count : State → ℕ
count s = s.core.count + length s.pending

-- The number of bytes counted at a start.
abbrev pub start_count : State → ℕ
start_count s = length s.start_block

-- The meaning of a type whose values hold a state each, with the last-node flag of its core.
abbrev pub meaning_by : {S : Type 0} → Family → ℕ → (S → State) → Meaning S
meaning_by f n state_of = record {
  future = λ s. future f n (state_of s);
  started = λ s. started f n (state_of s);
  last_node = λ s. (state_of s).core.last_node;
  count = λ s. count (state_of s);
  start_count = λ s. start_count (state_of s);
}

-- A meaning with a last-node flag that is always off.
abbrev pub unflagged : {S : Type 0} → Meaning S → Meaning S
unflagged m = record m { last_node = λ _. false }

-- A state as it is initialized with these parameters, and a key or none.
abbrev pub fresh : Family → Parameters → Option (List ℕ) → State
fresh f p key = record {
  core = core_made f p;
  pending = key_block f key;
  start_block = key_block f key;
}

-- A state reset to its start. It keeps its last-node flag.
abbrev pub restarted : State → State
restarted s = record s { core = core_restarted s.core; pending = s.start_block }

-- A state with this last-node flag.
abbrev pub node_set : State → Bool → State
node_set s on = record s { core = core_node_set s.core on }

-- The new value holds the state of the old one, reset to its start.
abbrev pub IsRestarted : {S : Type 0} → (S → State) → S → S → Type 0
IsRestarted state_of old new = state_of new ≡ restarted (state_of old)

-- Every word, count and byte of the state is zero, and its last-node flag is off.
abbrev pub IsWiped : State → Type 0
IsWiped s = (s.core ≡ core_wiped) × (s.pending ≡ replicate (length s.pending) 0)
    × (s.start_block ≡ replicate (length s.start_block) 0)

-- The input with this salt, personalization, key (or none), tree parameters, last-node flag and
-- message.
abbrev pub node_input : List ℕ → List ℕ → Option (List ℕ) → Tree → Bool → List ℕ → Input
node_input salt persona key tree last_node message = record {
  salt = salt;
  persona = persona;
  key = key;
  tree = tree;
  last_node = last_node;
  message = message;
}

-- The input of a sequential hash, whose last-node flag is off.
abbrev pub input : List ℕ → List ℕ → Option (List ℕ) → List ℕ → Input
input salt persona key message = node_input salt persona key sequential false message

-- The BLAKE2 digest of n bytes with these tree parameters, as a function of the last-node flag and
-- the message.
abbrev pub node_digest_of : Family → ℕ → List ℕ → List ℕ → Option (List ℕ) → Tree → Bool → List ℕ
    → List ℕ
node_digest_of f n salt persona key tree last_node message =
    digest f n (node_input salt persona key tree last_node message)

-- The BLAKE2 digest of n bytes, as a function of the message.
abbrev pub digest_of : Family → ℕ → List ℕ → List ℕ → Option (List ℕ) → List ℕ → List ℕ
digest_of f n salt persona key message = digest f n (input salt persona key message)
