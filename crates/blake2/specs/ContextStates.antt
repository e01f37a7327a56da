-- The states that contexts hold, each with the start block that its holder keeps, and their
-- meaning.
use Rattle.std.specs.Prelude.{ℕ, List}
use Rattle.blake2_simd.specs.Family.{blake2b, blake2s}
use Rattle.blake2.specs.declared.contexts.blake2b.Blake2bContext.{Blake2bContext}
use Rattle.blake2.specs.declared.contexts.blake2s.Blake2sContext.{Blake2sContext}
use Rattle.blake2.specs.States.{State, Meaning, meaning_by}

-- The state of a BLAKE2b context, which holds a core and pending bytes, with this start block.
abbrev pub blake2b_context_state : List ℕ → Blake2bContext → State
blake2b_context_state block s = record { core = s.core; pending = s.buffer; start_block = block }

-- The state of a BLAKE2s context, which holds a core and pending bytes, with this start block.
abbrev pub blake2s_context_state : List ℕ → Blake2sContext → State
blake2s_context_state block s = record { core = s.core; pending = s.buffer; start_block = block }

-- The meaning of a BLAKE2b context with this start block: the outputs of n bytes that it will
-- return, and the bytes that it counts.
abbrev pub blake2b_context_meaning : ℕ → List ℕ → Meaning Blake2bContext
blake2b_context_meaning n block = meaning_by blake2b n (blake2b_context_state block)

-- The meaning of a BLAKE2s context with this start block: the outputs of n bytes that it will
-- return, and the bytes that it counts.
abbrev pub blake2s_context_meaning : ℕ → List ℕ → Meaning Blake2sContext
blake2s_context_meaning n block = meaning_by blake2s n (blake2s_context_state block)
