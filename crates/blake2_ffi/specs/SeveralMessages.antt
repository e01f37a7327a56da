-- The arguments and results of the exports on several messages.
use Rattle.std.specs.Prelude.{ℕ, ◌+◌, ◌^◌, ◌<◌, List, length}
use Rattle.std.specs.List.{All, flat_map}
use Rattle.blake2_simd.specs.Family.{Family}
use Rattle.blake2.specs.States.{digest_of}
use Rattle.blake2_state.specs.ConstructorArguments.{key_unless_empty, counted_key_bytes}
use Rattle.blake2_state.specs.declared.StateParameters.{StateParameters}
use Rattle.blake2_state.specs.declared.many.Text.{Text}

-- The digests of the messages, `size` bytes each, one after the other, all under the same key, salt
-- and personalization.
abbrev pub digests_of_messages : Family → ℕ → List ℕ → List ℕ → List ℕ → List Text → List ℕ
digests_of_messages f size key salt persona texts =
    flat_map (λ t. digest_of f size salt persona (key_unless_empty key) t.bytes.now) texts

-- The same by the parameters of a state.
abbrev pub digests_by_state_parameters : Family → StateParameters → List Text → List ℕ
digests_by_state_parameters f given texts =
    digests_of_messages f given.output_size given.key.now given.salt.now given.persona.now texts

-- Each message and the key's block have fewer than 2^64 bytes.
abbrev pub HaveCountableLengths : Family → List ℕ → List Text → Type 0
HaveCountableLengths f key texts = All (λ t. counted_key_bytes f key + length t.bytes.now < 2 ^ 64)
    texts
