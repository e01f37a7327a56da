-- The length of the best piece of a message.
use Rattle.std.proofs.Common.{◌≡◌, ℕ, ◌+◌, ◌-◌, ◌*◌, ◌/◌, ◌<◌, ◌≤◌, ◌⊎◌, nat_eq, false, refl}
use Rattle.std.proofs.Common.{if◌then◌else◌, min, max, inl, inr, ap, arith}
use Rattle.std.proofs.lemmas.Bool.{cases_lt, ne_eqb}
use Rattle.std.proofs.Math.Nat.{mul-le-mul_left}

-- Let y leaves fit the usual length, with q fours in them. A piece of q fours, at least four, and
-- one more leaf is neither short nor long.
pub piece-neither_short_nor_long : (leaf y q fours : ℕ) → leaf * y ≤ 65536 → 65536 < leaf * (y + 1)
    → 4 * q ≤ y
    → y < 4 * q + 4 → fours ≡ max q 4
    → (16384 < leaf * (4 * fours + 1))
    × ((leaf * (4 * fours + 1) ≤ 65536 + leaf) ⊎ (leaf * (4 * fours + 1) ≤ 17 * leaf))
piece-neither_short_nor_long leaf y q fours below above fit rest is = elim (cases_lt 3 q) [
  | inl many ↦
      let same : fours ≡ q = omega (arith, is, many) in
      let more : leaf * (y + 1) ≤ leaf * (4 * fours + 4) =
      mul-le-mul_left leaf (let h : y + 1 ≤ 4 * fours + 4 = omega (arith, same, rest) in h) in
      let few : leaf * (4 * fours) ≤ leaf * y =
      mul-le-mul_left leaf (let h : 4 * fours ≤ y = omega (arith, same, fit) in h) in
      let least : leaf * 16 ≤ leaf * (4 * fours) =
      mul-le-mul_left leaf (let h : 16 ≤ 4 * fours = omega (arith, same, many) in h) in
      (omega (arith, more, least, above), inl (omega (arith, few, below)))
  | inr none ↦
      let same : fours ≡ 4 = omega (arith, is, none) in
      let whole : leaf * (4 * fours + 1) ≡ leaf * 17 = ap (λ n. leaf * (4 * n + 1)) same in
      let most : leaf * (y + 1) ≤ leaf * 16 =
      mul-le-mul_left leaf (let h : y + 1 ≤ 16 = omega (arith, none, rest) in h) in
      (omega (arith, whole, most, above), inr (omega (arith, whole)))
]

-- If at most m leaves fit the maximum length, and m is at most 4r + 4, then four more leaves after
-- a piece of r fours and one leaf do not fit.
pub four_more_leaves-exceed_maximum : (leaf m r : ℕ) → 16777216 < leaf * (m + 1) → m ≤ 4 * r + 4
    → 16777216 < leaf * (4 * r + 1) + 4 * leaf
four_more_leaves-exceed_maximum leaf m r above few =
    omega (arith, above, mul-le-mul_left leaf (let h : m + 1 ≤ 4 * r + 5 = omega (arith, few) in h))

-- Let m leaves fit the maximum length, and four fours or more with one more leaf. These are the
-- fours of the best piece.
pub piece-has_best_length : (leaf y m fours : ℕ) → leaf * (4 * fours + 1) ≤ 16777216
    → 16777216 < leaf * (m + 1) → fours ≡ max y 4
    → leaf * (4 * fours + 1) ≡ (if nat_eq (min (max y 4) ((m - 1) / 4)) 0 then 65536
    else leaf * (4 * min (max y 4) ((m - 1) / 4) + 1))
piece-has_best_length leaf y m fours fits above is = elim (cases_lt m (4 * fours + 1)) [
  | inl less ↦
      let long : leaf * (m + 1) ≤ leaf * (4 * fours + 1) =
      mul-le-mul_left leaf (let h : m + 1 ≤ 4 * fours + 1 = omega (arith, less) in h) in
      absurd (omega (arith, long, fits, above))
  | inr more ↦
      let same : min (max y 4) ((m - 1) / 4) ≡ fours = omega (arith, is, more) in
      let some : nat_eq fours 0 ≡ false = ne_eqb fours 0 (λ e. absurd (omega (arith, is, e))) in
      rw (same, some) refl
]
