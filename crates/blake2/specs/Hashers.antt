-- The states that hashers and MACs hold, and their meaning.
use Rattle.std.specs.Prelude.{ℕ, []}
use Rattle.blake2_simd.specs.Family.{blake2b, blake2s}
use Rattle.blake2_digest.specs.States.{Meaning}
use Rattle.blake2.specs.declared.hashers.blake2b.Blake2b.{Blake2b}
use Rattle.blake2.specs.declared.hashers.blake2s.Blake2s.{Blake2s}
use Rattle.blake2.specs.declared.macs.blake2b.Blake2bMac.{Blake2bMac}
use Rattle.blake2.specs.declared.macs.blake2s.Blake2sMac.{Blake2sMac}
use Rattle.blake2.specs.ContextStates.{blake2b_context_state, blake2s_context_state}
use Rattle.blake2.specs.States.{State, meaning_by, unflagged}

-- The state of a BLAKE2b hasher, which holds a context and has an empty start block.
abbrev pub blake2b_state : {n : ℕ} → Blake2b n → State
blake2b_state s = blake2b_context_state [] s.context

-- The state of a BLAKE2s hasher, which holds a context and has an empty start block.
abbrev pub blake2s_state : {n : ℕ} → Blake2s n → State
blake2s_state s = blake2s_context_state [] s.context

-- The meaning of a BLAKE2b hasher: the digests of n bytes that it will return, and the bytes that
-- it counts.
abbrev pub blake2b_meaning : (n : ℕ) → Meaning (Blake2b n)
blake2b_meaning n = meaning_by blake2b n blake2b_state

-- The meaning of a BLAKE2s hasher: the digests of n bytes that it will return, and the bytes that
-- it counts.
abbrev pub blake2s_meaning : (n : ℕ) → Meaning (Blake2s n)
blake2s_meaning n = meaning_by blake2s n blake2s_state

-- The state of a BLAKE2b MAC, which also holds the block of its key. A start leaves that block
-- pending.
abbrev pub blake2b_mac_state : {n : ℕ} → Blake2bMac n → State
blake2b_mac_state s = blake2b_context_state s.start_block s.context

-- The state of a BLAKE2s MAC, which also holds the block of its key. A start leaves that block
-- pending.
abbrev pub blake2s_mac_state : {n : ℕ} → Blake2sMac n → State
blake2s_mac_state s = blake2s_context_state s.start_block s.context

-- The meaning of a BLAKE2b MAC: the outputs of n bytes that it will return, and the bytes that it
-- counts. No call sets the last-node flag of a MAC, so the flag is off.
abbrev pub blake2b_mac_meaning : (n : ℕ) → Meaning (Blake2bMac n)
blake2b_mac_meaning n = unflagged (meaning_by blake2b n blake2b_mac_state)

-- The meaning of a BLAKE2s MAC: the outputs of n bytes that it will return, and the bytes that it
-- counts. No call sets the last-node flag of a MAC, so the flag is off.
abbrev pub blake2s_mac_meaning : (n : ℕ) → Meaning (Blake2sMac n)
blake2s_mac_meaning n = unflagged (meaning_by blake2s n blake2s_mac_state)
