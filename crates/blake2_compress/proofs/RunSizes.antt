-- The lengths of the chaining words of a run and of its digest. The bytes of words are bytes.
use Rattle.std.proofs.Common.{◌≡◌, ℕ, zero, suc, ◌+◌, ◌*◌, ◌≤◌, List, [], ◌∷◌, length, refl, ap}
use Rattle.std.proofs.Common.{◌∙◌, arith, length-append}
use Rattle.std.proofs.lemmas.List.{length-take-le}
use Rattle.std.specs.Int.{to_le_bytes}
use Rattle.std.specs.List.{flat_map}
use Rattle.blake2_simd.specs.Family.{Family, blake2b, blake2s, word, word_bytes, output_bytes}
use Rattle.blake2_simd.proofs.Texts.{AreBytes-append}
use Rattle.blake2_compress.specs.Hash.{input_flags, Flags, inner, input_parameters, AreBytes}
use Rattle.blake2_compress.specs.Hash.{bytes_of, chain, last_chain, Input, input_start, input_data}
use Rattle.blake2_compress.specs.Hash.{digest}
use Rattle.blake2_compress.proofs.WordSizes.{length-compress}
use Rattle.blake2_compress.proofs.ParameterSizes.{AreBytes-low, length-start}

-- ---- the run

-- The chaining words are eight.
pub length-chain : (f : Family) (h : List ℕ) (c : ℕ) (d : List (List ℕ)) (i : ℕ) → length h ≡ 8
    → length (chain f h c d i) ≡ 8
unfolding chain
length-chain f h c d zero e = e
length-chain f h c d (suc i) e = length-compress f _ _ _ inner (length-chain f h c d i e)

-- The last chaining words are eight.
pub length-last_chain : (f : Family) (h : List ℕ) (c : ℕ) (z : List ℕ) (flags : Flags)
    → length h ≡ 8 → length (last_chain f h c z flags) ≡ 8
unfolding last_chain
length-last_chain f h c z flags e = length-compress f _ _ _ flags (length-chain f h c _ _ e)

-- The number of bytes in a word.
length-le_bytes : (f : Family) (x : ℕ) → length (to_le_bytes (word f) x) ≡ word_bytes f
length-le_bytes blake2b x = refl
length-le_bytes blake2s x = refl

-- The number of bytes in a list of words.
pub length-bytes_of : (f : Family) (ws : List ℕ) → length (bytes_of f ws) ≡ length ws * word_bytes f
unfolding bytes_of
length-bytes_of f [] = omega arith
length-bytes_of f (x ∷ ws) =
    let more : suc (length ws) * word_bytes f ≡ word_bytes f + length ws * word_bytes f =
    omega arith in
    rw more (length-append (to_le_bytes (word f) x) (flat_map (to_le_bytes (word f)) ws)
    ∙ rw (length-le_bytes f x, length-bytes_of f ws) refl)

-- The length of a digest is its size.
pub length-digest : (f : Family) (size : ℕ) (a : Input) → size ≤ output_bytes f
    → length (digest f size a) ≡ size
unfolding digest
length-digest f size a fits =
    let h : List ℕ = last_chain f (input_start f size a) 0 (input_data f a) (input_flags a) in
    let lh : length h ≡ 8 = length-last_chain f _ 0 (input_data f a) (input_flags a)
    (length-start f (input_parameters size a)) in
    let eight : 8 * word_bytes f ≡ output_bytes f = eight_words f in
    length-take-le size (bytes_of f h) (omega (
      arith,
      length-bytes_of f h,
      ap (λ (n : ℕ). n * word_bytes f) lh,
    ))
  where
    eight_words : (f : Family) → 8 * word_bytes f ≡ output_bytes f
    eight_words blake2b = refl
    eight_words blake2s = refl

-- ---- the bytes of words

-- The bytes of a word are bytes.
AreBytes-le_bytes : (f : Family) (x : ℕ) → AreBytes (to_le_bytes (word f) x)
AreBytes-le_bytes blake2b x = AreBytes-low 0 8 x
AreBytes-le_bytes blake2s x = AreBytes-low 0 4 x

-- The bytes of words are bytes.
pub AreBytes-bytes_of : (f : Family) (ws : List ℕ) → AreBytes (bytes_of f ws)
unfolding bytes_of
AreBytes-bytes_of f [] = λ i. omega arith
AreBytes-bytes_of f (x ∷ ws) = AreBytes-append (to_le_bytes (word f) x)
    (flat_map (to_le_bytes (word f)) ws) (AreBytes-le_bytes f x) (AreBytes-bytes_of f ws)
