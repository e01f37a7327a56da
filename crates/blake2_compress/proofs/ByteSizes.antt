-- The lengths of padded lists and of lists of words that were read, and which lists are of bytes.
use Rattle.std.proofs.Common.{◌≡◌, ℕ, zero, suc, ◌+◌, ◌-◌, ◌≤◌, List, [], ◌∷◌, length}
use Rattle.std.proofs.Common.{take, drop, replicate, refl, ap, arith, length-append}
use Rattle.std.proofs.lemmas.List.{length-replicate, get_or-drop}
use Rattle.blake2_simd.specs.Family.{Family, word_bytes}
use Rattle.blake2_simd.proofs.Texts.{AreBytes-append}
use Rattle.blake2_compress.specs.Hash.{AreBytes, words_of, padded}

-- n words are read.
pub length-words_of : (f : Family) (n : ℕ) (xs : List ℕ) → length (words_of f n xs) ≡ n
unfolding words_of
length-words_of f zero xs = refl
length-words_of f (suc n) xs = ap suc (length-words_of f n (drop (word_bytes f) xs))

-- A suffix of a list of bytes is a list of bytes.
pub AreBytes-drop : (n : ℕ) (xs : List ℕ) → AreBytes xs → AreBytes (drop n xs)
AreBytes-drop n xs a i = rw (get_or-drop n xs i 0) (a (n + i))

-- The first of some bytes are bytes.
pub AreBytes-take : (n : ℕ) (xs : List ℕ) → AreBytes xs → AreBytes (take n xs)
AreBytes-take zero xs a i = omega arith
AreBytes-take (suc n) [] a i = omega arith
AreBytes-take (suc n) (x ∷ xs) a zero = a 0
AreBytes-take (suc n) (x ∷ xs) a (suc i) = AreBytes-take n xs (λ j. a (suc j)) i

-- Zeros are bytes.
pub AreBytes-zeros : (n : ℕ) → AreBytes (replicate n 0)
AreBytes-zeros zero i = omega arith
AreBytes-zeros (suc n) zero = omega arith
AreBytes-zeros (suc n) (suc i) = AreBytes-zeros n i

-- A list that fits is padded to n bytes.
pub length-padded : (n : ℕ) (xs : List ℕ) → length xs ≤ n → length (padded n xs) ≡ n
unfolding padded
length-padded n xs h = omega (
  arith,
  length-append xs (replicate (n - length xs) 0),
  length-replicate {A = ℕ} (n - length xs) 0,
)

-- Padded bytes are bytes.
pub AreBytes-padded : (n : ℕ) (xs : List ℕ) → AreBytes xs → AreBytes (padded n xs)
unfolding padded
AreBytes-padded n xs a = AreBytes-append xs _ a (AreBytes-zeros (n - length xs))
