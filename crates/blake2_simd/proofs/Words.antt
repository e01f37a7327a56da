-- The definitions map a list of words to one of the same length.
use Rattle.std.proofs.Common.{◌≡◌, ℕ, zero, suc, ◌+◌, ◌-◌, ◌%◌, ◌^◌, ◌<◌, inl, inr, List, [], ◌∷◌}
use Rattle.std.proofs.Common.{length, get_or, drop, set, refl, sym, arith, pow_pos, mod-lt}
use Rattle.std.proofs.lemmas.List.{length-set, get_or-set_same, get_or-set_other, set_past}
use Rattle.std.proofs.lemmas.List.{drop_all, drop_more}
use Rattle.std.proofs.lemmas.Nat.{or_lt, shr_le}
use Rattle.std.proofs.lemmas.Bool.{cases_eq, cases_lt}
use Rattle.std.specs.Int.{rotate_left, rotate_right}
use mir.Val.{bits}
use Rattle.blake2_simd.specs.Family.{Family, word}
use Rattle.blake2_simd.specs.Round.{AreWords, mix, round}

-- A list of words is still one after a word is written over another.
pub AreWords-set : (f : Family) (v : List ℕ) (i x : ℕ) → AreWords f v → x < 2 ^ bits (word f)
    → AreWords f (set v i x)
AreWords-set f v i x a lt k = elim (cases_lt i (length v)) [
  | inr past ↦ rw (set_past v i x past) (a k)
  | inl fits ↦ elim (cases_eq k i) [
    | inl same ↦ rw (same, get_or-set_same v i x 0 fits) lt
    | inr other ↦ rw (get_or-set_other v i k x 0 other) (a k)
  ]
]

-- A word rotated to the right is a word.
pub rotate_right-lt : (f : Family) (n r : ℕ) → n < 2 ^ bits (word f)
    → rotate_right (word f) n r < 2 ^ bits (word f)
rotate_right-lt f n r lt = or_lt (bits (word f)) _ _ (omega (arith, shr_le n (r % bits (word f))))
    (mod-lt _ (pow_pos (bits (word f))))

-- A word rotated to the left is a word.
pub rotate_left-lt : (f : Family) (n r : ℕ) → n < 2 ^ bits (word f)
    → rotate_left (word f) n r < 2 ^ bits (word f)
rotate_left-lt f n r lt = or_lt (bits (word f)) _ _ (mod-lt _ (pow_pos (bits (word f))))
    (omega (arith, shr_le n ((bits (word f) - r % bits (word f)) % bits (word f))))

-- G keeps the length.
pub length-mix : (f : Family) (v : List ℕ) (a b c d x y : ℕ)
    → length (mix f v a b c d x y) ≡ length v
unfolding mix
length-mix f v a b c d x y = simp length-set

-- A round keeps the length.
pub length-round : (f : Family) (v m s : List ℕ) → length (round f v m s) ≡ length v
unfolding round
length-round f v m s = simp length-mix

-- n elements of l, from index i on.
abbrev pub cells : List ℕ → ℕ → ℕ → List ℕ
cells l i zero = []
cells l i (suc n) = get_or l i 0 ∷ cells l (suc i) n

-- The elements up to the end are what is left of the list.
pub cells-drop : (l : List ℕ) (i n : ℕ) → length l ≡ i + n → cells l i n ≡ drop i l
cells-drop l i zero long = sym (drop_all i l (omega arith))
cells-drop l i (suc n) long =
    let rest : cells l (suc i) n ≡ drop (suc i) l = cells-drop l (suc i) n (omega arith) in
    let here : drop i l ≡ get_or l i 0 ∷ drop (i + 1) l = drop_more l i 0 (omega arith) in
    let next : i + 1 ≡ suc i = omega arith in
    rw (rest, here, next) refl
