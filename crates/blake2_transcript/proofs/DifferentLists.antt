-- An exclusive or, the words of bytes, and padding map different lists to different lists.
use Rattle.std.proofs.Common.{◌≡◌, ℕ, zero, suc, ◌+◌, ◌-◌, ◌*◌, List, [], ◌∷◌, ◌++◌, length, take}
use Rattle.std.proofs.Common.{drop, replicate, bit_xor, refl, sym, ap, ◌∙◌, arith, get_or}
use Rattle.std.proofs.Common.{length-drop}
use Rattle.std.proofs.lemmas.List.{take_at, take-append-drop, length-take-le}
use Rattle.std.proofs.lemmas.Nat.{le_bytes_4, le_bytes_8}
use Rattle.std.specs.Int.Bits.{xor_assoc, xor_self, xor_zero_l}
use Rattle.std.specs.Int.{from_le_bytes, to_le_bytes}
use Rattle.std.specs.List.{flat_map}
use Rattle.blake2_simd.specs.Family.{Family, blake2b, blake2s, word, word_bytes}
use Rattle.blake2_compress.specs.Hash.{Parameters, AreBytes, words_of, bytes_of, xor_words, padded}
use Rattle.blake2_compress.specs.Hash.{parameter_block, parameter_words}
use Rattle.blake2_compress.proofs.ParameterSizes.{AreValidParameters, length-parameter_block}
use Rattle.blake2_compress.proofs.ParameterSizes.{AreBytes-parameter_block}
use Rattle.blake2_compress.proofs.ByteSizes.{AreBytes-take, AreBytes-drop}

-- ---- xor

-- Numbers that are equal after an xor with one number are equal.
bit_xor-cancel_left : (a x y : ℕ) → bit_xor a x ≡ bit_xor a y → x ≡ y
bit_xor-cancel_left a x y h = sym (undone x) ∙ ap (bit_xor a) h ∙ undone y
  where
    undone : (z : ℕ) → bit_xor a (bit_xor a z) ≡ z
    undone z = sym (xor_assoc a a z) ∙ ap (λ (n : ℕ). bit_xor n z) (xor_self a) ∙ xor_zero_l z

-- Lists of words that are equal after an xor with one list of words are equal.
pub xor_words-cancel_left : (vs xs ys : List ℕ) → length xs ≡ length vs → length ys ≡ length vs
    → xor_words vs xs ≡ xor_words vs ys → xs ≡ ys
unfolding xor_words
xor_words-cancel_left [] [] [] a b h = refl
xor_words-cancel_left [] (x ∷ xs) ys a b h = absurd (omega arith)
xor_words-cancel_left [] [] (y ∷ ys) a b h = absurd (omega arith)
xor_words-cancel_left (v ∷ vs) [] ys a b h = absurd (omega arith)
xor_words-cancel_left (v ∷ vs) (x ∷ xs) [] a b h = absurd (omega arith)
xor_words-cancel_left (v ∷ vs) (x ∷ xs) (y ∷ ys) a b h =
    let head : bit_xor v x ≡ bit_xor v y = ap (λ (l : List ℕ). get_or l 0 0) h in
    let rest : xor_words vs xs ≡ xor_words vs ys = ap (drop 1) h in
    let one : x ≡ y = bit_xor-cancel_left v x y head in
    let more : xs ≡ ys = xor_words-cancel_left vs xs ys (omega arith) (omega arith) rest in
    λ i. one i ∷ more i

-- ---- words

-- The bytes of a word are those that it was read from.
to_le_bytes-of_read_word : (f : Family) (xs : List ℕ) → length xs ≡ word_bytes f → AreBytes xs
    → to_le_bytes (word f) (from_le_bytes (word f) xs) ≡ xs
to_le_bytes-of_read_word blake2b xs l a = le_bytes_8 xs _ l a refl
to_le_bytes-of_read_word blake2s xs l a = le_bytes_4 xs _ l a refl

-- The bytes of words are those that they were read from.
pub bytes_of-words_of : (f : Family) (n : ℕ) (xs : List ℕ) → length xs ≡ n * word_bytes f
    → AreBytes xs → bytes_of f (words_of f n xs) ≡ xs
unfolding words_of bytes_of
bytes_of-words_of f zero [] l a = refl
bytes_of-words_of f zero (x ∷ xs) l a = absurd (omega arith)
bytes_of-words_of f (suc n) xs l a =
    let k : ℕ = word_bytes f in
    let more : suc n * k ≡ k + n * k = omega arith in
    let front : to_le_bytes (word f) (from_le_bytes (word f) (take k xs)) ≡ take k xs =
    to_le_bytes-of_read_word f (take k xs) (length-take-le k xs (omega arith))
    (AreBytes-take k xs a) in
    let back : flat_map (to_le_bytes (word f)) (words_of f n (drop k xs)) ≡ drop k xs =
    bytes_of-words_of f n (drop k xs) (omega (arith, length-drop k xs)) (AreBytes-drop k xs a) in
    (λ i. front i ++ back i) ∙ take-append-drop k xs

-- The words of a parameter block determine the block.
pub bytes_of-parameter_words : (f : Family) (p : Parameters) → AreValidParameters f p
    → bytes_of f (parameter_words f p) ≡ parameter_block f p
unfolding parameter_words
bytes_of-parameter_words f p h =
    bytes_of-words_of f 8 (parameter_block f p) (length-parameter_block f p h.fits)
    (AreBytes-parameter_block f p h)

-- ---- padding

-- Lists of one length with trailing zeros are equal only if the lists are.
pub padded-injective : (n : ℕ) (xs ys : List ℕ) → length xs ≡ length ys → padded n xs ≡ padded n ys
    → xs ≡ ys
unfolding padded
padded-injective n xs ys l h =
    sym (take_at xs (replicate (n - length xs) 0) (length xs) refl) ∙ ap (take (length xs)) h
    ∙ take_at ys (replicate (n - length ys) 0) (length xs) (sym l)
