-- What parameter words, blocks and counters determine of their input.
use Rattle.std.proofs.Common.{◌≡◌, ℕ, ◌*◌, ◌≤◌, List, ◌++◌, length, refl, sym, ap, ◌∙◌, arith}
use Rattle.std.proofs.Common.{Option, Some, None}
use Rattle.blake2_simd.specs.Family.{Family, block_bytes, key_bytes, output_bytes}
use Rattle.blake2_compress.specs.Hash.{Flags, Fits, Parameters, input_parameters, padded, key_block}
use Rattle.blake2_compress.specs.Hash.{key_size, Input, input_data}
use Rattle.blake2_compress.specs.Inputs.{Accepts, KeyFits}
use Rattle.blake2_transcript.specs.Transcript.{no_entry, TranscriptDeterminesInput}
use Rattle.blake2_compress.proofs.ParameterSizes.{AreValidParameters, key_and_output_bytes-fit_byte}
use Rattle.blake2_compress.proofs.ByteSizes.{length-padded}
use Rattle.blake2_transcript.proofs.DifferentLists.{padded-injective}
use Rattle.blake2_compress.proofs.JoinedBlocks.{append-injective_by_length}
use Rattle.blake2_transcript.proofs.ParametersNamed.{parameter_words-injective}

-- The length of a key and the data determine the key and the message.
key_and_message-determined : (f : Family) (k k' : Option (List ℕ)) (m m' : List ℕ) → KeyFits f k
    → KeyFits f k'
    → key_size k ≡ key_size k'
    → key_block f k ++ m ≡ key_block f k' ++ m' → (k ≡ k') × (m ≡ m')
unfolding key_block
key_and_message-determined f None None m m' p q e h = (refl, h)
key_and_message-determined f None (Some k') m m' p q e h = absurd (omega arith)
key_and_message-determined f (Some k) None m m' p q e h = absurd (omega arith)
key_and_message-determined f (Some k) (Some k') m m' p q e h =
    let b : ℕ = block_bytes f in
    let fits = key_and_output_bytes-fit_byte f in
    let parts =
    append-injective_by_length b (padded b k) m (padded b k') m' (length-padded b k (omega arith))
    (length-padded b k' (omega arith)) h in
    let keys : k ≡ k' = padded-injective b k k' e parts.0 in
    (ap (λ (x : List ℕ). Some x) keys, parts.1)

-- A key that fits is not longer than the longest.
key_size-at_most_key_bytes : (f : Family) (k : Option (List ℕ)) → KeyFits f k
    → key_size k ≤ key_bytes f
key_size-at_most_key_bytes f None p = omega arith
key_size-at_most_key_bytes f (Some k) p = omega arith

-- The parameters of an accepted input fit.
pub accepted_input-fits : (f : Family) (size : ℕ) (a : Input) → Accepts f a → size ≤ output_bytes f
    → Fits f (input_parameters size a)
accepted_input-fits f size a p h = record {
  size = h;
  key_size = key_size-at_most_key_bytes f a.key p.key_fits;
  salt = p.salt_fits;
  persona = p.persona_fits;
  tree = p.tree;
}

-- The salt and the personalization of an accepted input are bytes.
pub accepted_input-has_valid_parameters : (f : Family) (size : ℕ) (a : Input) → Accepts f a
    → size ≤ output_bytes f
    → AreValidParameters f (input_parameters size a)
accepted_input-has_valid_parameters f size a p h = record {
  fits = accepted_input-fits f size a p h;
  salt_are = p.salt_bytes;
  persona_are = p.persona_bytes;
}

-- The law: a transcript determines its digest length and its input.
pub TranscriptDeterminesInput-holds : (f : Family) → TranscriptDeterminesInput f
TranscriptDeterminesInput-holds f words entries size other a b r s =
    let counted : length (input_data f a) ≡ length (input_data f b) =
    sym (r.is.ends no_entry).0 ∙ (s.is.ends no_entry).0 in
    let joined : input_data f a ≡ input_data f b = padded-injective
    (length entries * block_bytes f) _ _ counted (sym r.is.blocks ∙ s.is.blocks) in
    let same = parameter_words-injective f (input_parameters size a) (input_parameters other b)
    (accepted_input-has_valid_parameters f size a r.accepted r.fits)
    (accepted_input-has_valid_parameters f other b s.accepted s.fits)
    (sym r.is.parameters ∙ s.is.parameters) in
    let keyed =
    key_and_message-determined f a.key b.key a.message b.message r.accepted.key_fits
    s.accepted.key_fits
    (ap (λ (p : Parameters). p.key_size) same) joined in (
      ap (λ (p : Parameters). p.size) same,
      record {
        salt = ap (λ (p : Parameters). p.salt) same;
        persona = ap (λ (p : Parameters). p.persona) same;
        key = keyed.0;
        tree = ap (λ (p : Parameters). p.tree) same;
        last_node =
            ap (λ (g : Flags). g.last_node) (sym (r.is.ends no_entry).1 ∙ (s.is.ends no_entry).1);
        message = keyed.1;
      },
    )
