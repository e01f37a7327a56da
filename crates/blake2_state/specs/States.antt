-- What states mean that hold the length of their digests.
use Rattle.std.specs.Prelude.{ℕ, Bool, List, not, nat_eq, slice_index}
use Rattle.blake2_simd.specs.Family.{Family, iv}
use Rattle.blake2_compress.specs.Hash.{bytes_of, xor_words}
use Rattle.blake2_digest.specs.States.{Meaning}
use Rattle.blake2.specs.States.{State, future, started, count, start_count}

-- Whether a flag that is held as a number is on: 0 is off, and every other number is on.
abbrev pub is_on : ℕ → Bool
is_on n = not (nat_eq n 0)

-- The meaning of a type whose values hold a state and the length of its digests, with the last-node
-- flag of its core.
abbrev pub meaning_sized : {S : Type 0} → Family → (S → ℕ) → (S → State) → Meaning S
meaning_sized f size_of state_of = record {
  future = λ s. future f (size_of s) (state_of s);
  started = λ s. started f (size_of s) (state_of s);
  last_node = λ s. (state_of s).core.last_node;
  count = λ s. count (state_of s);
  start_count = λ s. start_count (state_of s);
}

-- The length in bytes of the key that a parameter block names, by the words that its run starts
-- from: the block's words xored into the IV. It is the second byte of the block, and 0 without a
-- key (RFC 7693, 2.5 and 3.3).
abbrev pub named_key_size : Family → List ℕ → ℕ
named_key_size f first = slice_index (bytes_of f (xor_words (iv f) first)) 1
