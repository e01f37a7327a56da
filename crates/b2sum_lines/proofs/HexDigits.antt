-- The hexadecimal digits of bytes: what each passes, all of a text pass.
use Rattle.std.proofs.Common.{◌≡◌, ℕ, ◌/◌, ◌%◌, ◌<◌, Bool, true, List, [], ◌∷◌, ◌&&◌, refl, arith}
use Rattle.std.proofs.Common.{inl, inr, zero, suc}
use Rattle.std.proofs.lemmas.Bool.{cases_lt, and_parts}
use Rattle.std.specs.List.{list_all}
use Rattle.std.specs.Prelude.{slice_index}
use Rattle.hex.specs.Hex.{encode_lower, encode_with, lower_digits, IsBytes}

-- Each of the first n digits passes the test.
abbrev pub first_digits_pass : (ℕ → Bool) → ℕ → Bool
first_digits_pass p zero = true
first_digits_pass p (suc n) = p (slice_index lower_digits n) && first_digits_pass p n

first_digits_pass-at : (p : ℕ → Bool) (n k : ℕ) → first_digits_pass p n ≡ true → k < n
    → p (slice_index lower_digits k) ≡ true
first_digits_pass-at p zero k h below = absurd (omega (arith, below))
first_digits_pass-at p (suc n) k h below =
    let parts = and_parts (p (slice_index lower_digits n)) (first_digits_pass p n) h in
    elim (cases_lt k n) [
      | inl less ↦ first_digits_pass-at p n k parts.1 less
      | inr top ↦
          let e : k ≡ n = omega (arith, below, top) in
          rw e parts.0
    ]

-- One of the sixteen digits.
pub lower_digit-passes : (p : ℕ → Bool) → first_digits_pass p 16 ≡ true → (k : ℕ) → k < 16
    → p (slice_index lower_digits k) ≡ true
lower_digit-passes p all k below = first_digits_pass-at p 16 k all below

-- The digits of bytes.
pub encoded_digits-pass : (p : ℕ → Bool) → first_digits_pass p 16 ≡ true → (bytes : List ℕ)
    → IsBytes bytes
    → list_all p (encode_lower bytes) ≡ true
unfolding encode_with
encoded_digits-pass p all [] are = refl
encoded_digits-pass p all (b ∷ bytes) are =
    let small : b < 256 = are 0 in
    rw (
      lower_digit-passes p all (b / 16) (omega (arith, small)),
      lower_digit-passes p all (b % 16) (omega (arith, small)),
    ) (encoded_digits-pass p all bytes (λ k. are (suc k)))
