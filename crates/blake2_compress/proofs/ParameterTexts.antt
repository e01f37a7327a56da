-- Zeros after a salt or a personalization change nothing.
use Rattle.std.proofs.Common.{◌≡◌, ℕ, ◌+◌, ◌-◌, ◌≤◌, List, ◌++◌, length, take, replicate, refl, ap}
use Rattle.std.proofs.Common.{◌∙◌, arith, length-append}
use Rattle.std.proofs.lemmas.List.{append_assoc, length-replicate, replicate-append-replicate}
use Rattle.blake2_simd.specs.Family.{Family, salt_bytes, iv}
use Rattle.blake2_compress.specs.Hash.{padded, Parameters, parameter_block, parameter_words, start}
use Rattle.blake2_compress.specs.Hash.{words_of, bytes_of, xor_words, last_chain, Input, input_data}
use Rattle.blake2_compress.specs.Hash.{input_flags, input_parameters, digest}
use Rattle.blake2_compress.specs.DigestLaws.{TrailingZerosKeepDigest}

-- Zeros after a list, within n bytes, are padding.
pub padded-append_zeros : (n : ℕ) (x : List ℕ) (m : ℕ) → length x + m ≤ n
    → padded n (x ++ replicate m 0) ≡ padded n x
unfolding padded
padded-append_zeros n x m fits =
    let zeros : List ℕ = replicate m 0 in
    let size : length (x ++ zeros) ≡ length x + m =
    omega (arith, length-append x zeros, length-replicate {A = ℕ} m 0) in
    let left : m + (n - length (x ++ zeros)) ≡ n - length x = omega arith in
    append_assoc x zeros (replicate (n - length (x ++ zeros)) 0)
    ∙ ap (λ (z : List ℕ). x ++ z) (replicate-append-replicate m (n - length (x ++ zeros)) 0
    ∙ ap (λ (k : ℕ). replicate k 0) left)

-- Salt and personalization are in the parameter block with their padding.
pub parameter_block-of_padded_texts : (f : Family) (p : Parameters) (salt persona : List ℕ)
    → padded (salt_bytes f) salt ≡ padded (salt_bytes f) p.salt
    → padded (salt_bytes f) persona ≡ padded (salt_bytes f) p.persona
    → parameter_block f (record p { salt = salt; persona = persona }) ≡ parameter_block f p
unfolding parameter_block
parameter_block-of_padded_texts f p salt persona salts personas = rw (salts, personas) refl

-- The digest depends on them only with their padding.
digest-of_padded_texts : (f : Family) (size : ℕ) (a : Input) (salt persona : List ℕ)
    → padded (salt_bytes f) salt ≡ padded (salt_bytes f) a.salt
    → padded (salt_bytes f) persona ≡ padded (salt_bytes f) a.persona
    → digest f size (record a { salt = salt; persona = persona }) ≡ digest f size a
unfolding digest start parameter_words
digest-of_padded_texts f size a salt persona salts personas =
    ap (λ (block : List ℕ). take size (bytes_of f (last_chain f (xor_words (iv f) (words_of f 8
    block)) 0 (input_data f a) (input_flags a))))
    (parameter_block-of_padded_texts f (input_parameters size a) salt persona salts personas)

-- The law: zeros after the salt and the personalization change no digest.
pub TrailingZerosKeepDigest-holds : (f : Family) → TrailingZerosKeepDigest f
TrailingZerosKeepDigest-holds f size a m n fits_salt fits_persona =
    digest-of_padded_texts f size a _ _ (padded-append_zeros (salt_bytes f) a.salt m fits_salt)
    (padded-append_zeros (salt_bytes f) a.persona n fits_persona)
