-- The bytes of parameter words contain the parameters that they were made of.
use Rattle.std.proofs.Common.{◌≡◌, ℕ, ◌+◌, ◌^◌, ◌<◌, List, ◌++◌, length, take, drop, sym, ap, subst}
use Rattle.std.proofs.Common.{◌∙◌, arith}
use Rattle.std.proofs.lemmas.List.{take_at, drop_at}
use Rattle.std.proofs.lemmas.Nat.{from_le_bytes-to_le_bytes_4, from_le_bytes-to_le_bytes_8}
use Rattle.std.specs.Int.{from_le_bytes, to_le_bytes, w64}
use Rattle.blake2_simd.specs.Family.{Family, blake2b, blake2s, offset_bytes, reserved_bytes}
use Rattle.blake2_simd.specs.Family.{salt_bytes, iv}
use Rattle.blake2_compress.specs.Hash.{AreBytes, Fits, Parameters, bytes_of, words_of, padded}
use Rattle.blake2_compress.specs.Hash.{parameter_block, parameter_words, start}
use Rattle.blake2_compress.specs.ParameterBlock.{parameters_in_block}
use Rattle.blake2_compress.proofs.ParameterSizes.{AreValidParameters, length-parameter_words}
use Rattle.blake2_compress.proofs.ByteSizes.{length-padded, AreBytes-take, AreBytes-drop}
use Rattle.blake2_compress.proofs.RunSizes.{AreBytes-bytes_of}
use Rattle.blake2_transcript.proofs.DifferentLists.{bytes_of-parameter_words, xor_words-cancel_left}
use Rattle.blake2_compress.proofs.WordSizes.{length-iv}
use Rattle.blake2_compress.proofs.ParameterTexts.{parameter_block-of_padded_texts}
use Rattle.blake2_compress.proofs.Padding.{padded-unchanged_at_length}

-- The parameters with salt and personalization padded with zeros to full length.
abbrev pub padded_parameters : Family → Parameters → Parameters
padded_parameters f p = record p {
  salt = padded (salt_bytes f) p.salt;
  persona = padded (salt_bytes f) p.persona;
}

-- The padded parameters fit if the parameters do.
pub padded_parameters-fit : (f : Family) (p : Parameters) → Fits f p
    → Fits f (padded_parameters f p)
padded_parameters-fit f p h = record {
  size = h.size;
  key_size = h.key_size;
  salt = omega (arith, length-padded (salt_bytes f) p.salt h.salt);
  persona = omega (arith, length-padded (salt_bytes f) p.persona h.persona);
  tree = h.tree;
}

-- The padded parameters have the same words.
pub padded_parameters-same_words : (f : Family) (p : Parameters) → Fits f p
    → parameter_words f (padded_parameters f p) ≡ parameter_words f p
unfolding parameter_words
padded_parameters-same_words f p h =
    ap (words_of f 8) (parameter_block-of_padded_texts f p _ _
    (padded-unchanged_at_length (salt_bytes f) _ (length-padded (salt_bytes f) p.salt h.salt))
    (padded-unchanged_at_length (salt_bytes f) _
    (length-padded (salt_bytes f) p.persona h.persona)))

-- Six bytes determine a number of at most six bytes.
from_le_bytes-six_bytes : (n : ℕ) → n < 2 ^ 48 → from_le_bytes w64 (take 6 (to_le_bytes w64 n)) ≡ n
from_le_bytes-six_bytes n h = omega (arith, h)

-- The padded parameters, with both texts cut from the end of a block.
padded_parameters-from_block_end : (f : Family) (p : Parameters) (leaf offset : ℕ) → Fits f p
    → leaf ≡ p.tree.leaf_length → offset ≡ p.tree.node_offset
    → (let s = salt_bytes f in let texts = padded s p.salt ++ padded s p.persona in record {
      size = p.size;
      key_size = p.key_size;
      salt = take s texts;
      persona = drop s texts;
      tree = record p.tree { leaf_length = leaf; node_offset = offset };
    }) ≡ padded_parameters f p
padded_parameters-from_block_end f p leaf offset h leaf_is offset_is =
    let s : ℕ = salt_bytes f in
    let front : length (padded s p.salt) ≡ s = length-padded s p.salt h.salt in
    let salt = take_at (padded s p.salt) (padded s p.persona) s front in
    let persona = drop_at (padded s p.salt) (padded s p.persona) s front in
    λ i. record {
      size = p.size;
      key_size = p.key_size;
      salt = salt i;
      persona = persona i;
      tree = record p.tree { leaf_length = leaf_is i; node_offset = offset_is i };
    }

-- A parameter block contains the padded parameters.
parameters_in_block-inverse : (f : Family) (p : Parameters) → Fits f p
    → parameters_in_block f (parameter_block f p) ≡ padded_parameters f p
unfolding parameter_block
parameters_in_block-inverse blake2b p h =
    padded_parameters-from_block_end blake2b p _ _ h
    (from_le_bytes-to_le_bytes_4 p.tree.leaf_length h.tree.leaf_length)
    (from_le_bytes-to_le_bytes_8 p.tree.node_offset h.tree.node_offset)
parameters_in_block-inverse blake2s p h =
    padded_parameters-from_block_end blake2s p _ _ h
    (from_le_bytes-to_le_bytes_4 p.tree.leaf_length h.tree.leaf_length)
    (from_le_bytes-six_bytes p.tree.node_offset h.tree.node_offset)

-- The law: the bytes of parameter words contain the parameters, padded with zeros.
pub parameters_in_block-of_words : (f : Family) (p : Parameters) → AreValidParameters f p
    → parameters_in_block f (bytes_of f (parameter_words f p)) ≡ padded_parameters f p
parameters_in_block-of_words f p h = ap (parameters_in_block f) (bytes_of-parameter_words f p h)
    ∙ parameters_in_block-inverse f p h.fits

-- Equal parameter words have the same parameters, padded with zeros.
pub parameter_words-injective : (f : Family) (p q : Parameters) → AreValidParameters f p
    → AreValidParameters f q
    → parameter_words f p ≡ parameter_words f q → padded_parameters f p ≡ padded_parameters f q
parameter_words-injective f p q hp hq h = sym (parameters_in_block-of_words f p hp)
    ∙ ap (λ (words : List ℕ). parameters_in_block f (bytes_of f words)) h
    ∙ parameters_in_block-of_words f q hq

-- Equal start words come from equal parameter words.
pub start-injective : (f : Family) (p q : Parameters) → start f p ≡ start f q
    → parameter_words f p ≡ parameter_words f q
unfolding start
start-injective f p q h =
    xor_words-cancel_left (iv f) _ _ (length-parameter_words f p ∙ sym (length-iv f))
    (length-parameter_words f q ∙ sym (length-iv f)) h

-- The salt and the personalization that the bytes of words contain are bytes.
pub parameters_in_block-has_byte_texts : (f : Family) (p : Parameters) (words : List ℕ)
    → p ≡ parameters_in_block f (bytes_of f words) → AreBytes p.salt × AreBytes p.persona
parameters_in_block-has_byte_texts f p words named =
    let texts = AreBytes-drop (8 + offset_bytes f + 2 + reserved_bytes f) _
    (AreBytes-bytes_of f words) in
    subst (λ (q : Parameters). AreBytes q.salt × AreBytes q.persona) (sym named)
    (AreBytes-take (salt_bytes f) _ texts, AreBytes-drop (salt_bytes f) _ texts)
