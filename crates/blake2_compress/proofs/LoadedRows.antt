-- Words as rows are loaded from their bytes, four by four.
use Rattle.std.proofs.Common.{◌≡◌, ℕ, ◌+◌, ◌-◌, ◌*◌, ◌<◌, ◌≤◌, List, [], ◌∷◌, ◌++◌, get_or, take}
use Rattle.std.proofs.Common.{drop, sym, ap, ◌∙◌, arith}
use Rattle.std.proofs.lemmas.List.{drop-take, take-take, drop-drop}
use Rattle.std.specs.Int.{from_le_bytes}
use Rattle.blake2_simd.specs.Family.{Family, blake2b, blake2s, word, word_bytes}
use Rattle.blake2_simd.specs.Rows.{four, word_at}
use Rattle.blake2_compress.specs.Hash.{words_of}
use Rattle.blake2_simd.proofs.Words.{cells-drop}
use Rattle.blake2_compress.proofs.WordsByIndex.{words_of-at}
use Rattle.blake2_compress.proofs.ByteSizes.{length-words_of}

-- A part of a part.
take_drop-nested : (a i n m : ℕ) (xs : List ℕ) → i + n ≤ m
    → take n (drop i (take m (drop a xs))) ≡ take n (drop (a + i) xs)
take_drop-nested a i n m xs fits =
    let more : m ≡ i + (m - i) = omega arith in
    ap (λ (k : ℕ). take n (drop i (take k (drop a xs)))) more
    ∙ ap (take n) (drop-take i (m - i) (drop a xs))
    ∙ take-take n (m - i) (drop i (drop a xs)) (omega arith) ∙ ap (take n) (drop-drop i a xs)

-- The bytes of four words, after those of q times four.
abbrev bytes_of_four_words : Family → ℕ → List ℕ → List ℕ
bytes_of_four_words f q xs = take (4 * word_bytes f) (drop (4 * word_bytes f * q) xs)

-- Word j of these four.
bytes_of_four_words-word : (f : Family) (n q j : ℕ) (xs : List ℕ) → 4 * q + 4 ≤ n → j < 4
    → word_at f (bytes_of_four_words f q xs) j ≡ get_or (words_of f n xs) (4 * q + j) 0
bytes_of_four_words-word f n q j xs lq lj =
    let b : ℕ = word_bytes f in
    let fits : b * j + b ≤ 4 * b = within f in
    let place : 4 * b * q + b * j ≡ b * (4 * q + j) = omega arith in
    ap (from_le_bytes (word f)) (take_drop-nested (4 * b * q) (b * j) b (4 * b) xs fits
    ∙ ap (λ (k : ℕ). take b (drop k xs)) place)
    ∙ sym (words_of-at f n (4 * q + j) xs (omega arith))
  where
    within : (f : Family) → word_bytes f * j + word_bytes f ≤ 4 * word_bytes f
    within blake2b = omega arith
    within blake2s = omega arith

-- All of these four words.
bytes_of_four_words-all : (f : Family) (n q : ℕ) (xs : List ℕ) → 4 * q + 4 ≤ n
    → four (word_at f (bytes_of_four_words f q xs))
    ≡ four (λ j. get_or (words_of f n xs) (4 * q + j) 0)
bytes_of_four_words-all f n q xs lt = λ i.
    bytes_of_four_words-word f n q 0 xs lt (omega arith) i ∷ bytes_of_four_words-word f n q 1 xs lt
    (omega arith) i ∷
    bytes_of_four_words-word f n q 2 xs lt (omega arith) i ∷ bytes_of_four_words-word f n q 3 xs lt
    (omega arith) i ∷ []

-- Eight words are read in this way.
pub words_of-eight : (f : Family) (xs : List ℕ) → four (word_at f (bytes_of_four_words f 0 xs))
    ++ four (word_at f (bytes_of_four_words f 1 xs)) ≡ words_of f 8 xs
words_of-eight f xs =
    (λ i. bytes_of_four_words-all f 8 0 xs (omega arith) i ++ bytes_of_four_words-all f 8 1 xs
    (omega arith) i)
    ∙ cells-drop (words_of f 8 xs) 0 8 (length-words_of f 8 xs)

-- Sixteen words are read in this way.
pub words_of-sixteen : (f : Family) (xs : List ℕ)
    → four (word_at f (bytes_of_four_words f 0 xs)) ++ four (word_at f (bytes_of_four_words f 1 xs))
    ++ four (word_at f (bytes_of_four_words f 2 xs)) ++ four
    (word_at f (bytes_of_four_words f 3 xs)) ≡ words_of f 16 xs
words_of-sixteen f xs =
    (λ i. bytes_of_four_words-all f 16 0 xs (omega arith) i ++ bytes_of_four_words-all f 16 1 xs
    (omega arith) i
    ++ bytes_of_four_words-all f 16 2 xs (omega arith) i ++ bytes_of_four_words-all f 16 3 xs
    (omega arith) i)
    ∙ cells-drop (words_of f 16 xs) 0 16 (length-words_of f 16 xs)
