-- Rotating a word to the right and then to the left by the same number of bits returns the word,
-- and so does the other order.
use Rattle.std.proofs.Common.{◌≡◌, ◌≢◌, ℕ, ◌+◌, ◌-◌, ◌*◌, ◌/◌, ◌%◌, ◌^◌, ◌<◌, ◌≤◌, inl, inr, bit_or}
use Rattle.std.proofs.Common.{sym, ap, subst, ◌∙◌, arith, mod-lt, pow_pos, pow-add, lit<}
use Rattle.std.proofs.Math.Nat.{mul-lt-mul_of_pos_right, mod-eq_of_lt, mod_self, div-one, sub-zero}
use Rattle.std.proofs.Math.Nat.{mul-one}
use Rattle.std.proofs.lemmas.Bool.{cases_eq}
use Rattle.std.proofs.lemmas.Nat.{mod-mul-add, or_comm, shr_below, shr_high, shr_split}
use Rattle.std.specs.Int.{rotate_left, rotate_right}
use Rattle.std.specs.Int.Bits.{or_self, or_shifted_r}
use mir.Val.{bits}
use Rattle.blake2_simd.specs.Family.{Family, word, blake2b, blake2s}

-- A number of w bits after its low k bits are moved to the top, for k from 1 to w - 1.
abbrev rotated : ℕ → ℕ → ℕ → ℕ
rotated w n k = bit_or (n / 2 ^ k) (n * 2 ^ (w - k) % 2 ^ w)

-- A product of numbers below powers.
scaled_lt : (j k l : ℕ) → l < 2 ^ k → l * 2 ^ j < 2 ^ (j + k)
scaled_lt j k l low =
    let grown : l * 2 ^ j < 2 ^ k * 2 ^ j = mul-lt-mul_of_pos_right low (pow_pos j) in
    omega (arith, grown, pow-add 2 j k)

-- The high j bits h and the low k bits l are swapped.
rotated-swaps_parts : (j k h l : ℕ) → l < 2 ^ k → h < 2 ^ j
    → rotated (j + k) (h * 2 ^ k + l) k ≡ l * 2 ^ j + h
rotated-swaps_parts j k h l low high =
    let whole : (h * 2 ^ k + l) * 2 ^ j ≡ h * 2 ^ (j + k) + l * 2 ^ j =
    rw (pow-add 2 j k) (omega arith) in
    let rest : j + k - k ≡ j = omega arith in
    let kept : (h * 2 ^ k + l) * 2 ^ (j + k - k) % 2 ^ (j + k) ≡ l * 2 ^ j =
    rw rest (ap (λ (x : ℕ). x % 2 ^ (j + k)) whole
    ∙ mod-mul-add h (2 ^ (j + k)) (l * 2 ^ j) (scaled_lt j k l low)) in
    rw (shr_high h k l low, kept) (or_shifted_r l j h high)

-- A number rotated by k bits is its low k bits above the others.
rotated-sum : (w n k : ℕ) → k ≤ w → n < 2 ^ w → rotated w n k ≡ n % 2 ^ k * 2 ^ (w - k) + n / 2 ^ k
rotated-sum w n k le fits =
    let j : ℕ = w - k in
    let width : w ≡ j + k = omega arith in
    let high : n / 2 ^ k < 2 ^ j = shr_below n j k (subst (λ (i : ℕ). n < 2 ^ i) width fits) in
    let low : n % 2 ^ k < 2 ^ k = mod-lt n (pow_pos k) in
    let parts : n / 2 ^ k * 2 ^ k + n % 2 ^ k ≡ n = shr_split n k in
    ap (λ (x : ℕ). rotated w x k) (sym parts) ∙ ap
    (λ (i : ℕ). rotated i (n / 2 ^ k * 2 ^ k + n % 2 ^ k) k) width
    ∙ rotated-swaps_parts j k (n / 2 ^ k) (n % 2 ^ k) low high

-- A number rotated by k bits and then by the rest of the width is the number again.
rotated-inverse : (w n k : ℕ) → k ≤ w → n < 2 ^ w → rotated w (rotated w n k) (w - k) ≡ n
rotated-inverse w n k le fits =
    let j : ℕ = w - k in
    let swapped_width : w ≡ k + j = omega arith in
    let high : n / 2 ^ k < 2 ^ j = shr_below n j k
    (subst (λ (i : ℕ). n < 2 ^ i) (omega arith) fits) in
    let low : n % 2 ^ k < 2 ^ k = mod-lt n (pow_pos k) in
    ap (λ (x : ℕ). rotated w x j) (rotated-sum w n k le fits)
    ∙ ap (λ (i : ℕ). rotated i (n % 2 ^ k * 2 ^ j + n / 2 ^ k) j) swapped_width
    ∙ rotated-swaps_parts k j (n % 2 ^ k) (n / 2 ^ k) high low ∙ shr_split n k

-- A word has at least one bit.
word_bits-positive : (f : Family) → 0 < bits (word f)
word_bits-positive blake2b = lit< tt
word_bits-positive blake2s = lit< tt

-- What `rotate_right` computes of a number n of w bits, for k below w.
abbrev right_rotation : ℕ → ℕ → ℕ → ℕ
right_rotation w n k = bit_or (n / 2 ^ k) (n * 2 ^ ((w - k) % w) % 2 ^ w)

-- What `rotate_left` computes of a number n of w bits, for k below w.
abbrev left_rotation : ℕ → ℕ → ℕ → ℕ
left_rotation w n k = bit_or (n * 2 ^ k % 2 ^ w) (n / 2 ^ ((w - k) % w))

-- A rotation to the right by some bits.
right_rotation-is_rotated : (w n k : ℕ) → k ≢ 0 → k < w → right_rotation w n k ≡ rotated w n k
right_rotation-is_rotated w n k some low =
    let rest : (w - k) % w ≡ w - k = mod-eq_of_lt (omega arith) in
    ap (λ (i : ℕ). bit_or (n / 2 ^ k) (n * 2 ^ i % 2 ^ w)) rest

-- A rotation to the left by k bits is a rotation to the right by the other bits.
left_rotation-is_rotated : (w n k : ℕ) → k ≢ 0 → k < w → left_rotation w n k ≡ rotated w n (w - k)
left_rotation-is_rotated w n k some low =
    let rest : (w - k) % w ≡ w - k = mod-eq_of_lt (omega arith) in
    let whole : k ≡ w - (w - k) = omega arith in
    ap (λ (i : ℕ). bit_or (n * 2 ^ k % 2 ^ w) (n / 2 ^ i)) rest
    ∙ or_comm (n * 2 ^ k % 2 ^ w) (n / 2 ^ (w - k))
    ∙ ap (λ (i : ℕ). bit_or (n / 2 ^ (w - k)) (n * 2 ^ i % 2 ^ w)) whole

-- A rotation to the right by no bits.
right_rotation-zero : (w n : ℕ) → n < 2 ^ w → right_rotation w n 0 ≡ n
right_rotation-zero w n fits =
    let none : (w - 0) % w ≡ 0 = rw sub-zero (mod_self w) in
    rw (none, div-one, mul-one) (rw (mod-eq_of_lt fits) (or_self n))

-- A rotation to the left by no bits.
left_rotation-zero : (w n : ℕ) → n < 2 ^ w → left_rotation w n 0 ≡ n
left_rotation-zero w n fits =
    let none : (w - 0) % w ≡ 0 = rw sub-zero (mod_self w) in
    rw (none, div-one, mul-one) (rw (mod-eq_of_lt fits) (or_self n))

-- First to the right, and then to the left.
left_rotation-inverse : (w n k : ℕ) → k < w → n < 2 ^ w
    → left_rotation w (right_rotation w n k) k ≡ n
left_rotation-inverse w n k low fits = elim (cases_eq k 0) [
  | inl none ↦ rw (none, right_rotation-zero w n fits) (left_rotation-zero w n fits)
  | inr some ↦ left_rotation-is_rotated w (right_rotation w n k) k some low
      ∙ rw (right_rotation-is_rotated w n k some low) (rotated-inverse w n k (omega arith) fits)
]

-- First to the left, and then to the right.
right_rotation-inverse : (w n k : ℕ) → k < w → n < 2 ^ w
    → right_rotation w (left_rotation w n k) k ≡ n
right_rotation-inverse w n k low fits = elim (cases_eq k 0) [
  | inl none ↦ rw (none, left_rotation-zero w n fits) (right_rotation-zero w n fits)
  | inr some ↦
      let whole : k ≡ w - (w - k) = omega arith in
      right_rotation-is_rotated w (left_rotation w n k) k some low
      ∙ ap (λ x. rotated w x k) (left_rotation-is_rotated w n k some low)
      ∙ ap (λ (i : ℕ). rotated w (rotated w n (w - k)) i) whole
      ∙ rotated-inverse w n (w - k) (omega arith) fits
]

-- A word rotated to the right by r bits and then to the left by r bits is the word again.
pub rotate_left-rotate_right : (f : Family) (n r : ℕ) → n < 2 ^ bits (word f)
    → rotate_left (word f) (rotate_right (word f) n r) r ≡ n
rotate_left-rotate_right f n r fits = left_rotation-inverse (bits (word f)) n (r % bits (word f))
    (mod-lt r (word_bits-positive f)) fits

-- A word rotated to the left by r bits and then to the right by r bits is the word again.
pub rotate_right-rotate_left : (f : Family) (n r : ℕ) → n < 2 ^ bits (word f)
    → rotate_right (word f) (rotate_left (word f) n r) r ≡ n
rotate_right-rotate_left f n r fits = right_rotation-inverse (bits (word f)) n (r % bits (word f))
    (mod-lt r (word_bits-positive f)) fits

-- A word rotated to the right by r bits, as a sum: its low r bits above the others.
pub rotate_right-sum : (f : Family) (n r : ℕ) → 0 < r → r < bits (word f) → n < 2 ^ bits (word f)
    → rotate_right (word f) n r ≡ n % 2 ^ r * 2 ^ (bits (word f) - r) + n / 2 ^ r
rotate_right-sum f n r some low fits =
    let w : ℕ = bits (word f) in
    let within : r % w ≡ r = mod-eq_of_lt low in
    ap (λ (k : ℕ). right_rotation w n k) within ∙ right_rotation-is_rotated w n r (omega arith) low
    ∙ rotated-sum w n r (omega arith) fits
