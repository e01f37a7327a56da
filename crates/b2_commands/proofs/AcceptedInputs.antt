-- Which inputs are accepted, in terms of what the options of a MAC refuse and of how much is
-- counted.
use Rattle.std.proofs.Common.{◌≡◌, ℕ, ◌+◌, ◌-◌, ◌<◌, ◌≤◌, ◌^◌, List, [], ◌++◌, length, replicate}
use Rattle.std.proofs.Common.{Option, None, Some, inl, inr, refl, arith, length-append, lit<, subst}
use Rattle.std.proofs.Common.{sym, IfSome}
use Rattle.std.proofs.lemmas.List.{length-replicate}
use Rattle.std.proofs.lemmas.Bool.{cases_lt}
use Rattle.blake2.specs.Family.{Family, blake2b, blake2s, block_bytes, key_bytes}
use Rattle.blake2.specs.Hash.{AdmitsTree, AreBytes, Input, key_block, padded, sequential}
use Rattle.blake2.specs.Inputs.{Accepts, KeyFits}
use Rattle.blake2.specs.MacArguments.{key_count, AdmitsMac, HasRefusedLength, KeyLengthFits}
use Rattle.blake2.specs.States.{input}
use Rattle.b2_commands.specs.Inputs.{IsKeyOfBytes, ConsistsOfBytes}

-- A key that fits has room in a block.
key_length-within_block : (f : Family) (n : ℕ) → n ≤ key_bytes f → n ≤ block_bytes f
key_length-within_block blake2b n h = omega arith
key_length-within_block blake2s n h = omega arith

-- A key that is padded to n bytes counts these and the message.
length-padded_append : (n : ℕ) (key message : List ℕ) → length key ≤ n
    → length (padded n key ++ message) ≡ n + length message
unfolding padded
length-padded_append n key message h =
    let zeros : List ℕ = replicate (n - length key) 0 in
    omega (
      arith,
      length-append (key ++ zeros) message,
      length-append key zeros,
      length-replicate {A = ℕ} (n - length key) 0,
    )

-- The data of a key that fits counts the block of the key and the message.
length-key_block_append : (f : Family) (key : Option (List ℕ)) (message : List ℕ) → KeyFits f key
    → length (key_block f key ++ message) ≡ key_count f key + length message
unfolding key_block
length-key_block_append f None message fits = omega arith
length-key_block_append f (Some key) message fits = length-padded_append (block_bytes f) key message
    (key_length-within_block f (length key) fits.1)

-- The tree parameters of a sequential hash are admitted.
pub sequential_admitted : (f : Family) → AdmitsTree f sequential
sequential_admitted blake2b = grind arith
sequential_admitted blake2s = grind arith

-- A key fits if and only if its length does, since it consists of bytes.
key_fits-if_length_fits : (f : Family) (key : Option (List ℕ)) → IsKeyOfBytes key
    → KeyLengthFits f key
    → KeyFits f key
key_fits-if_length_fits f None bytes fits = tt
key_fits-if_length_fits f (Some key) bytes fits = (fits.0, fits.1, bytes)

key_length_fits-if_key_fits : (f : Family) (key : Option (List ℕ)) → KeyFits f key
    → KeyLengthFits f key
key_length_fits-if_key_fits f None fits = tt
key_length_fits-if_key_fits f (Some key) fits = (fits.0, fits.1)

-- An input of bytes is accepted if its lengths are admitted and it does not count too much.
admitted_input-is_accepted : (f : Family) (a : Input) → ConsistsOfBytes a → a.tree ≡ sequential
    → AdmitsMac f a.key a.salt a.persona → key_count f a.key + length a.message < 2 ^ 64
    → Accepts f a
admitted_input-is_accepted f a bytes whole lengths short =
    let key : KeyFits f a.key = key_fits-if_length_fits f a.key bytes.key lengths.key_fits in
    record {
      salt_fits = lengths.salt_fits;
      persona_fits = lengths.persona_fits;
      key_fits = key;
      counted = rw (length-key_block_append f a.key a.message key) short;
      tree = subst (AdmitsTree f) (sym whole) (sequential_admitted f);
      salt_bytes = bytes.salt;
      persona_bytes = bytes.persona;
      message_bytes = bytes.message;
    }

-- An accepted input has no key, salt or personalization that a MAC refuses.
pub accepted_input-is_not_refused : (f : Family) (a b : Input) → a ≡ b → Accepts f a
    → HasRefusedLength f b.key b.salt b.persona → ⊥
unfolding HasRefusedLength
accepted_input-is_not_refused f a b same accepts refused =
    let taken : Accepts f b = subst (Accepts f) same accepts in
    refused (record {
      key_fits = key_length_fits-if_key_fits f b.key taken.key_fits;
      salt_fits = taken.salt_fits;
      persona_fits = taken.persona_fits;
    })

-- If an input that does not count too much is not accepted, a MAC refuses its key, salt or
-- personalization.
unaccepted_input-is_refused : (f : Family) (a b : Input) → a ≡ b → ConsistsOfBytes a
    → b.tree ≡ sequential
    → (Accepts f a → ⊥) → key_count f b.key + length b.message < 2 ^ 64
    → HasRefusedLength f b.key b.salt b.persona
unfolding HasRefusedLength
unaccepted_input-is_refused f a b same bytes whole not short lengths =
    not (subst (Accepts f) (sym same)
    (admitted_input-is_accepted f b (subst ConsistsOfBytes same bytes) whole lengths short))

-- The block of a key without a message does not count too much.
key_count-fits_counter : (f : Family) (key : Option (List ℕ)) (n : ℕ) → n ≡ 0
    → key_count f key + n < 2 ^ 64
key_count-fits_counter blake2b None n empty = omega (arith, empty)
key_count-fits_counter blake2s None n empty = omega (arith, empty)
key_count-fits_counter blake2b (Some key) n empty = omega (arith, empty)
key_count-fits_counter blake2s (Some key) n empty = omega (arith, empty)

-- If an input of no message is not accepted, a MAC refuses its key, salt or personalization.
pub unaccepted_empty_message-is_refused : (f : Family) (a b : Input) → a ≡ b → ConsistsOfBytes a
    → b.tree ≡ sequential
    → length b.message ≡ 0 → (Accepts f a → ⊥) → HasRefusedLength f b.key b.salt b.persona
unaccepted_empty_message-is_refused f a b same bytes whole empty not =
    unaccepted_input-is_refused f a b same bytes whole not
    (key_count-fits_counter f b.key (length b.message) empty)

-- An input that is not accepted, although its lengths are, counts 2^64 bytes or more.
pub unaccepted_unrefused-is_too_long : (f : Family) (a b : Input) → a ≡ b → ConsistsOfBytes a
    → b.tree ≡ sequential
    → (HasRefusedLength f b.key b.salt b.persona → ⊥) → (Accepts f a → ⊥)
    → 2 ^ 64 ≤ key_count f b.key + length b.message
unaccepted_unrefused-is_too_long f a b same bytes whole allowed not =
    elim (cases_lt (key_count f b.key + length b.message) (2 ^ 64)) [
      | inl short ↦ absurd (allowed (unaccepted_input-is_refused f a b same bytes whole not short))
      | inr long ↦ long
    ]

-- What is counted of a message is counted of all that a source had left, if the message is that.
pub source_too_long-if_message_too_long : (left : Option (List ℕ)) (message : List ℕ) (n : ℕ)
    → IfSome left (λ all. message ≡ all)
    → 2 ^ 64 ≤ n + length message → IfSome left (λ all. 2 ^ 64 ≤ n + length all)
source_too_long-if_message_too_long None message n is long = tt
source_too_long-if_message_too_long (Some all) message n is long =
    subst (λ (m : List ℕ). 2 ^ 64 ≤ n + length m) is long

-- An unkeyed message without salt and personalization is accepted.
pub unkeyed_input-is_accepted : (f : Family) (a : Input) (message : List ℕ)
    → a ≡ input [] [] None message
    → AreBytes message → length message < 2 ^ 64 → Accepts f a
unkeyed_input-is_accepted f a message is bytes short =
    subst (Accepts f) (sym is) (admitted_input-is_accepted f (input [] [] None message)
    (record { salt = none; persona = none; key = tt; message = bytes }) refl
    (record { key_fits = tt; salt_fits = omega arith; persona_fits = omega arith })
    (omega (arith, short)))
  where
    none : AreBytes []
    none i = lit< tt
