-- Lists with zeros at their end.
use Rattle.std.proofs.Common.{◌≡◌, ℕ, zero, suc, ◌-◌, ◌<◌, ◌≤◌, inl, inr, List, ◌++◌, length, take}
use Rattle.std.proofs.Common.{replicate, refl, sym, ap, ◌∙◌, arith, get_or}
use Rattle.std.proofs.lemmas.List.{get_or-take, get_or-append_right, get_or_append_left}
use Rattle.std.proofs.lemmas.List.{get_or_past, length-take-le, append-nil}
use Rattle.std.proofs.lemmas.Grind.{same_number_lists}
use Rattle.std.proofs.lemmas.Bool.{cases_lt}
use Rattle.std.specs.Int.{from_le_bytes, w32, w64}
use Rattle.blake2_compress.specs.Hash.{padded}
use Rattle.blake2_compress.proofs.ByteSizes.{length-padded}

-- The elements after the list are zeros.
pub padded-zero_past_end : (n : ℕ) (z : List ℕ) (i : ℕ) → length z ≤ i → get_or (padded n z) i 0 ≡ 0
unfolding padded
padded-zero_past_end n z i h =
    get_or-append_right z (replicate (n - length z) 0) (length z) i 0 refl h
    ∙ zero_at (n - length z) (i - length z)
  where
    zero_at : (m k : ℕ) → get_or (replicate {A = ℕ} m 0) k 0 ≡ 0
    zero_at zero k = refl
    zero_at (suc m) zero = refl
    zero_at (suc m) (suc k) = zero_at m k

-- The elements before the zeros are those of the list.
pub padded-keeps_elements : (n : ℕ) (z : List ℕ) (i : ℕ) → i < length z
    → get_or (padded n z) i 0 ≡ get_or z i 0
unfolding padded
padded-keeps_elements n z i h = get_or_append_left z (replicate (n - length z) 0) 0 i h

-- A list that is long enough is not padded.
pub padded-unchanged_at_length : (n : ℕ) (xs : List ℕ) → length xs ≡ n → padded n xs ≡ xs
unfolding padded
padded-unchanged_at_length n xs h =
    let none : n - length xs ≡ 0 = omega arith in
    ap (λ (k : ℕ). xs ++ replicate k 0) none ∙ append-nil xs

-- A list that is zero from index k on.
pub padded-if_zero_after : (xs : List ℕ) (k : ℕ) → k ≤ length xs
    → ((i : ℕ) → k ≤ i → get_or xs i 0 ≡ 0)
    → xs ≡ padded (length xs) (take k xs)
padded-if_zero_after xs k h zeros =
    let front : length (take k xs) ≡ k = length-take-le k xs h in
    same_number_lists xs (padded (length xs) (take k xs))
    (sym (length-padded (length xs) (take k xs) (omega arith)))
    (λ i l. elim (cases_lt i k) [
      | inl below ↦ sym (padded-keeps_elements (length xs) (take k xs) i (omega arith)
          ∙ get_or-take k xs i 0 below)
      | inr past ↦ zeros i past ∙ sym (padded-zero_past_end (length xs) (take k xs) i (omega arith))
    ])

-- Trailing zeros leave each of the bytes, and what the bytes are read as.
padded-same_reads : (n : ℕ) (z : List ℕ) (i : ℕ) → get_or (padded n z) i 0 ≡ get_or z i 0
padded-same_reads n z i = elim (cases_lt i (length z)) [
  | inl below ↦ padded-keeps_elements n z i below
  | inr past ↦ padded-zero_past_end n z i past ∙ sym (get_or_past z i 0 past)
]

pub from_le_bytes-padded_32 : (n : ℕ) (z : List ℕ)
    → from_le_bytes w32 (padded n z) ≡ from_le_bytes w32 z
from_le_bytes-padded_32 n z =
    let at = padded-same_reads n z in
    omega (arith, at 0, at 1, at 2, at 3)

pub from_le_bytes-padded_64 : (n : ℕ) (z : List ℕ)
    → from_le_bytes w64 (padded n z) ≡ from_le_bytes w64 z
from_le_bytes-padded_64 n z =
    let at = padded-same_reads n z in
    omega (arith, at 0, at 1, at 2, at 3, at 4, at 5, at 6, at 7)
