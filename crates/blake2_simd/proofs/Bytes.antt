-- Bytes read as lanes, and lanes written as bytes. Vectors do both by the digits of one number.
use Rattle.std.proofs.Common.{◌≡◌, ℕ, zero, suc, ◌+◌, ◌*◌, ◌/◌, ◌%◌, ◌^◌, ◌<◌, ◌≤◌, List, [], ◌∷◌}
use Rattle.std.proofs.Common.{◌++◌, length, get_or, drop, refl, sym, ap, ◌∙◌, arith, Fits, w8, lit<}
use Rattle.std.proofs.Math.Nat.{add-mul-mod_self_left, add-mul-div_left, div-div-eq-div-mul}
use Rattle.std.proofs.Math.Nat.{div-lt_iff_lt-mul, div-one, mul_assoc, mul-zero, mul-suc, pow-zero}
use Rattle.std.proofs.Math.Nat.{pow-suc, pow-succ'}
use Rattle.std.proofs.lemmas.List.{drop_all, take_all}
use Rattle.std.proofs.lemmas.Simd.{get_or_wider, length-chunk, chunk-fits, below_from_Fits}
use Rattle.std.specs.Int.{from_le_bytes, to_le_bytes, byte_at, bytes_low_first}
use Rattle.std.specs.Simd.Lanes.{Each1, number_l, digits_l, chunk}
use mir.Val.{bits}
use Rattle.blake2_simd.specs.Family.{Family, word, word_bytes, blake2b, blake2s}
use Rattle.blake2_simd.specs.Round.{AreWords}
use Rattle.blake2_simd.specs.Rows.{four, word_at, lane_bytes}

-- A word has the same number of values as its bytes have together.
pub word_values-by_bytes : (f : Family) → 2 ^ bits (word f) ≡ 256 ^ word_bytes f
word_values-by_bytes blake2b = refl
word_values-by_bytes blake2s = refl

-- ---- from bytes to lanes

-- The number of the digits from index i on.
number_l-drop : (p : ℕ) (xs : List ℕ) (i : ℕ)
    → number_l p (drop i xs) ≡ get_or xs i 0 + p * number_l p (drop (suc i) xs)
number_l-drop p [] zero = omega arith
number_l-drop p [] (suc i) = omega arith
number_l-drop p (x ∷ xs) zero = refl
number_l-drop p (x ∷ xs) (suc i) = number_l-drop p xs i

-- The bytes of a word as digits, the least first, are that word in little-endian order.
number_l-word : (f : Family) (xs : List ℕ) → length xs ≡ word_bytes f
    → number_l 256 xs ≡ from_le_bytes (word f) xs
number_l-word blake2b xs long =
    let rest : number_l 256 (drop 8 xs) ≡ 0 = ap (number_l 256) (drop_all 8 xs (omega arith)) in
    let at = number_l-drop 256 xs in
    omega (arith, at 0, at 1, at 2, at 3, at 4, at 5, at 6, at 7, rest)
number_l-word blake2s xs long =
    let rest : number_l 256 (drop 4 xs) ≡ 0 = ap (number_l 256) (drop_all 4 xs (omega arith)) in
    let at = number_l-drop 256 xs in
    omega (arith, at 0, at 1, at 2, at 3, rest)

-- The lanes of a vector that was loaded from the bytes of four words.
pub loaded_bytes-as_lanes : (f : Family) (n : ℕ) (xs : List ℕ) → n ≡ 4 * word_bytes f
    → length xs ≡ n
    → ((i : ℕ) → Fits w8 (get_or xs i 0))
    → digits_l (2 ^ bits (word f)) 4 (number_l 256 (chunk 0 n xs)) ≡ four (λ j. word_at f xs j)
loaded_bytes-as_lanes f n xs size long fits =
    let k : ℕ = word_bytes f in
    let q : ℕ = 2 ^ bits (word f) in
    let below : Each1 (λ x. x < 256) (chunk 0 n xs) =
    below_from_Fits w8 (chunk 0 n xs) (chunk-fits w8 0 n xs fits) in
    let whole : chunk 0 n xs ≡ xs = take_all n xs (omega arith) in
    let at : (j : ℕ) → j < 4 → k * j + k ≤ length xs
    → get_or (digits_l q 4 (number_l 256 (chunk 0 n xs))) j 0 ≡ word_at f xs j =
    λ j low fit.
    get_or_wider 256 k q 4 (chunk 0 n xs) j (word_values-by_bytes f) below low
    ∙ ap (λ ys. number_l 256 (chunk (k * j) k ys)) whole
    ∙ number_l-word f (chunk (k * j) k xs) (length-chunk (k * j) k xs fit) in
    λ i. at 0 (omega arith) (omega arith) i ∷ at 1 (omega arith) (omega arith) i
    ∷ at 2 (omega arith) (omega arith) i ∷ at 3 (omega arith) (omega arith) i ∷ []

-- ---- from lanes to bytes

-- Byte i of a number, also if it is the lowest.
byte_at-is_digit : (i n : ℕ) → byte_at i n ≡ n / 256 ^ i % 256
byte_at-is_digit zero n = ap (λ m. m % 256) (sym (div-one n))
byte_at-is_digit (suc i) n = refl

-- The bytes from index i on are the digits of what is left of the number there.
bytes_are_digits : (k i n : ℕ) → bytes_low_first i k n ≡ digits_l 256 k (n / 256 ^ i)
bytes_are_digits zero i n = refl
bytes_are_digits (suc k) i n =
    let next : n / 256 ^ suc i ≡ n / 256 ^ i / 256 =
    ap (λ p. n / p) (pow-suc 256 i) ∙ sym (div-div-eq-div-mul n (256 ^ i) 256) in
    λ t. byte_at-is_digit i n t ∷ (bytes_are_digits k (suc i) n ∙ ap (digits_l 256 k) next) t

-- The k + n digits of a number below q ^ k with others above it.
digits_l-add : (q k n x y : ℕ) → 0 < q → x < q ^ k
    → digits_l q (k + n) (x + q ^ k * y) ≡ digits_l q k x ++ digits_l q n y
digits_l-add q zero n x y some low =
    let none : n ≡ 0 + n = omega arith in
    let alone : x + q ^ 0 * y ≡ y = rw (pow-zero q) (omega (arith, rw (pow-zero q) at low)) in
    rw (alone, ← none) refl
digits_l-add q (suc k) n x y some low =
    let more : suc k + n ≡ suc (k + n) = omega arith in
    let split : q ^ suc k * y ≡ q * (q ^ k * y) = rw (pow-succ' q k) (mul_assoc q (q ^ k) y) in
    let first : (x + q ^ suc k * y) % q ≡ x % q =
    rw split (add-mul-mod_self_left x q (q ^ k * y)) in
    let rest : (x + q ^ suc k * y) / q ≡ x / q + q ^ k * y =
    rw split (add-mul-div_left x (q ^ k * y) some) in
    let below : x / q < q ^ k = (div-lt_iff_lt-mul some).1 (rw (pow-suc q k) at low) in
    rw more (λ i. first i ∷ (ap (digits_l q (k + n)) rest
    ∙ digits_l-add q k n (x / q) y some below) i)

-- The bytes of a word are its digits.
digits_l-are_le_bytes : (f : Family) (n : ℕ)
    → digits_l 256 (word_bytes f) n ≡ to_le_bytes (word f) n
digits_l-are_le_bytes blake2b n =
    ap (digits_l 256 8) (sym (div-one n)) ∙ sym (bytes_are_digits 8 0 n)
digits_l-are_le_bytes blake2s n =
    ap (digits_l 256 4) (sym (div-one n)) ∙ sym (bytes_are_digits 4 0 n)

-- The bytes that a vector of words writes are those of its lanes.
pub digits_l-are_lane_bytes : (f : Family) (n : ℕ) (xs : List ℕ) → n ≡ word_bytes f * length xs
    → AreWords f xs
    → digits_l 256 n (number_l (2 ^ bits (word f)) xs) ≡ lane_bytes f xs
digits_l-are_lane_bytes f n [] size words = rw (size, mul-zero (word_bytes f)) refl
digits_l-are_lane_bytes f n (x ∷ xs) size words =
    let k : ℕ = word_bytes f in
    let q : ℕ = 2 ^ bits (word f) in
    let more : n ≡ k + k * length xs = size ∙ rw (mul-suc k (length xs)) (omega arith) in
    let low : x < 256 ^ k = rw (word_values-by_bytes f) at words 0 in
    rw more (
    ap (λ p. digits_l 256 (k + k * length xs) (x + p * number_l q xs)) (word_values-by_bytes f)
    ∙ digits_l-add 256 k (k * length xs) x (number_l q xs) (lit< tt) low
    ∙ (λ i. digits_l-are_le_bytes f x i ++ digits_l-are_lane_bytes f (k * length xs) xs refl
    (λ j. words (suc j)) i)
    )
