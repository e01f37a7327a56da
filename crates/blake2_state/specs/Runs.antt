-- What a state of either family means as a hasher. Its digests are padded with zeros, so that those
-- of all sizes have one type.
use Rattle.std.specs.Prelude.{ℕ, Bool, List}
use Rattle.blake2_digest.specs.States.{Meaning}
use Rattle.blake2_digest.specs.Texts.{padded}
use Rattle.blake2_state.specs.Blake2b as B
use Rattle.blake2_state.specs.Blake2s as S
use Rattle.blake2_state.specs.declared.runs.Held.{Held}
use Rattle.blake2_state.specs.declared.runs.Held.TheVariants.{Blake2b, Blake2s}

-- The state returns digests.
abbrev pub IsReady : Held → Type 0
IsReady (Blake2b s) = B.IsReady s
IsReady (Blake2s s) = S.IsReady s

abbrev future : Held → Bool → List ℕ → List ℕ
future (Blake2b s) = B.meaning.future s
future (Blake2s s) = S.meaning.future s

abbrev started : Held → Bool → List ℕ → List ℕ
started (Blake2b s) = B.meaning.started s
started (Blake2s s) = S.meaning.started s

abbrev last_node : Held → Bool
last_node (Blake2b s) = B.meaning.last_node s
last_node (Blake2s s) = S.meaning.last_node s

abbrev count : Held → ℕ
count (Blake2b s) = B.meaning.count s
count (Blake2s s) = S.meaning.count s

abbrev start_count : Held → ℕ
start_count (Blake2b s) = B.meaning.start_count s
start_count (Blake2s s) = S.meaning.start_count s

-- Digests as a function of the last-node flag and the message, padded to 64 bytes.
abbrev pub padded_digest : (Bool → List ℕ → List ℕ) → Bool → List ℕ → List ℕ
padded_digest digest flag y = padded 64 (digest flag y)

-- The meaning of a state of either family: that of its family, with padded digests.
abbrev pub meaning : Meaning Held
meaning = record {
  future = λ s. padded_digest (future s);
  started = λ s. padded_digest (started s);
  last_node = last_node;
  count = count;
  start_count = start_count;
}
