-- Where two lists of numbers differ, bit by bit.
use Rattle.std.proofs.Common.{◌≡◌, ℕ, ◌<◌, ◌↔◌, List, length, get_or, bit_or, bit_xor, ap, sym, ◌∙◌}
use Rattle.std.proofs.Common.{arith}
use Rattle.std.proofs.lemmas.Nat.{le_or_l, le_or_r}
use Rattle.std.proofs.lemmas.List.Prefix.{front_from_reads}
use Rattle.std.proofs.lemmas.Grind.{common_steps}
use lib.Bits.{or_zero_l, xor_zero_l, xor_zero_r, xor_self, xor_assoc}

-- Numbers whose bits differ nowhere are equal.
bit_xor-zero_implies_equal : (x y : ℕ) → bit_xor x y ≡ 0 → x ≡ y
bit_xor-zero_implies_equal x y e =
    sym (xor_zero_r x) ∙ ap (bit_xor x) (sym (xor_self y)) ∙ sym (xor_assoc x y y)
    ∙ ap (λ z. bit_xor z y) e ∙ xor_zero_l y

-- The bits in which two numbers differ, added to others: there are none exactly if there are no
-- others and the two are equal.
pub bit_or_xor-zero_iff_equal : (d x y : ℕ) → (bit_or d (bit_xor x y) ≡ 0) ↔ ((d ≡ 0) × (x ≡ y))
bit_or_xor-zero_iff_equal d x y = (
  λ h. (
    omega (arith, le_or_l d (bit_xor x y)),
    bit_xor-zero_implies_equal x y (omega (arith, le_or_r d (bit_xor x y))),
  ),
  λ h. ap (λ z. bit_or z (bit_xor x y)) h.0 ∙ or_zero_l _ ∙ ap (bit_xor x) (sym h.1) ∙ xor_self x,
)

-- Lists of one length are equal if all their numbers are.
pub lists-equal_by_index : (xs ys : List ℕ) → length xs ≡ length ys
    → ((k : ℕ) → k < length ys → get_or xs k 0 ≡ get_or ys k 0) → xs ≡ ys
lists-equal_by_index xs ys e h = let s = front_from_reads 0 xs ys (omega arith) h in
    grind (arith, common_steps)
