-- Each assignment of G can be undone in a list of words.
use Rattle.std.proofs.Common.{◌≡◌, ◌≢◌, ℕ, zero, suc, ◌+◌, ◌-◌, ◌%◌, ◌^◌, ◌<◌, List, [], ◌∷◌}
use Rattle.std.proofs.Common.{length, set, bit_xor, slice_index, refl, ap, ◌∙◌, arith, pow_pos}
use Rattle.std.proofs.Common.{mod-lt}
use Rattle.std.proofs.lemmas.List.{length-set, set-get_or, get_or-set_same, get_or-set_other}
use Rattle.std.proofs.lemmas.Nat.{xor_lt}
use Rattle.std.specs.Int.{rotate_left, rotate_right}
use Rattle.std.specs.Int.Bits.{xor_self, xor_zero_r}
use lib.Bits.{xor_assoc}
use mir.Val.{bits}
use Rattle.blake2_simd.specs.Family.{Family, word, blake2b, blake2s}
use Rattle.blake2_simd.specs.Round.{AreWords, plus, rotate}
use Rattle.blake2_simd.proofs.Rotations.{rotate_left-rotate_right, rotate_right-rotate_left}
use Rattle.blake2_simd.proofs.Words.{AreWords-set, rotate_left-lt, rotate_right-lt}

-- v after v[a] := (v[a] - v[b] - x) mod 2^w.
abbrev pub minus : Family → List ℕ → ℕ → ℕ → ℕ → List ℕ
minus f v a b x = set v a (((slice_index v a + (2 ^ bits (word f) - slice_index v b)) % 2 ^ bits
    (word f) + (2 ^ bits (word f) - x)) % 2 ^ bits (word f))

-- v after v[c] := (v[c] - v[d]) mod 2^w.
abbrev pub subtract_word : Family → List ℕ → ℕ → ℕ → List ℕ
subtract_word f v c d =
    set v c ((slice_index v c + (2 ^ bits (word f) - slice_index v d)) % 2 ^ bits
    (word f))

-- v after v[d] := (v[d] <<< r) ^ v[a].
abbrev pub unrotate : Family → List ℕ → ℕ → ℕ → ℕ → List ℕ
unrotate f v d a r = set v d (bit_xor (rotate_left (word f) (slice_index v d) r) (slice_index v a))

-- `back` undoes the step that made w of v, which leaves words and the length.
pub record Undoes (f : Family) (v w : List ℕ) (back : List ℕ → List ℕ) : Type 0 where
  pub words : AreWords f w
  pub long : length w ≡ length v
  pub undone : back w ≡ v

-- A second write at one index.
pub set-set : (l : List ℕ) (i x y : ℕ) → set (set l i x) i y ≡ set l i y
set-set [] i x y = refl
set-set (z ∷ l) zero x y = refl
set-set (z ∷ l) (suc i) x y = ap (λ t. z ∷ t) (set-set l i x y)

-- A sum of three words, less the second and the third.
sum_undone : (f : Family) (a b x : ℕ) → a < 2 ^ bits (word f) → b < 2 ^ bits (word f)
    → x < 2 ^ bits (word f)
    → (((a + b + x) % 2 ^ bits (word f) + (2 ^ bits (word f) - b)) % 2 ^ bits (word f)
    + (2 ^ bits (word f) - x)) % 2 ^ bits (word f) ≡ a
sum_undone blake2b a b x ha hb hx = omega arith
sum_undone blake2s a b x ha hb hx = omega arith

-- A word less two others, plus those two.
difference_undone : (f : Family) (a b x : ℕ) → a < 2 ^ bits (word f) → b < 2 ^ bits (word f)
    → x < 2 ^ bits (word f)
    → (((a + (2 ^ bits (word f) - b)) % 2 ^ bits (word f) + (2 ^ bits (word f) - x)) % 2 ^ bits
    (word f) + b + x) % 2 ^ bits (word f) ≡ a
difference_undone blake2b a b x ha hb hx = omega arith
difference_undone blake2s a b x ha hb hx = omega arith

-- A sum of two words, less the second.
single_sum_undone : (f : Family) (a b : ℕ) → a < 2 ^ bits (word f) → b < 2 ^ bits (word f)
    → ((a + b + 0) % 2 ^ bits (word f) + (2 ^ bits (word f) - b)) % 2 ^ bits (word f) ≡ a
single_sum_undone blake2b a b ha hb = omega arith
single_sum_undone blake2s a b ha hb = omega arith

-- A word less another, plus that other.
single_difference_undone : (f : Family) (a b : ℕ) → a < 2 ^ bits (word f) → b < 2 ^ bits (word f)
    → ((a + (2 ^ bits (word f) - b)) % 2 ^ bits (word f) + b + 0) % 2 ^ bits (word f) ≡ a
single_difference_undone blake2b a b ha hb = omega arith
single_difference_undone blake2s a b ha hb = omega arith

-- An exclusive or with one number, twice.
xor_twice : (a b : ℕ) → bit_xor (bit_xor a b) b ≡ a
xor_twice a b = xor_assoc a b b ∙ ap (bit_xor a) (xor_self b) ∙ xor_zero_r a

-- A second write at the index of the first, of a number x made of the first one and the word at
-- another index.
set_twice-combines : (v : List ℕ) (a b p : ℕ) (g : ℕ → ℕ → ℕ) → a < length v → b ≢ a
    → set (set v a p) a (g (slice_index (set v a p) a) (slice_index (set v a p) b))
    ≡ set v a (g p (slice_index v b))
set_twice-combines v a b p g fits other =
    rw (get_or-set_same v a p 0 fits, get_or-set_other v a b p 0 other)
    (set-set v a p (g p (slice_index v b)))

-- The assignment of a word p to v[a] is undone by that of g v[a] v[b], if this is what was there.
assignment_undone : (f : Family) (v : List ℕ) (a b p : ℕ) (g : ℕ → ℕ → ℕ) → AreWords f v
    → p < 2 ^ bits (word f) → a < length v → b ≢ a → g p (slice_index v b) ≡ slice_index v a
    → Undoes f v (set v a p) (λ w. set w a (g (slice_index w a) (slice_index w b)))
assignment_undone f v a b p g words low fits other same = record {
  words = AreWords-set f v a p words low;
  long = length-set v a p;
  undone = set_twice-combines v a b p g fits other ∙ ap (set v a) same ∙ set-get_or v a 0;
}

-- A number modulo 2^w is a word.
mod_width-is_word : (f : Family) (n : ℕ) → n % 2 ^ bits (word f) < 2 ^ bits (word f)
mod_width-is_word f n = mod-lt n (pow_pos (bits (word f)))

-- The assignment v[a] := v[a] + v[b] + x is undone by `minus`.
pub minus_undoes_plus : (f : Family) (v : List ℕ) (a b x : ℕ) → AreWords f v → x < 2 ^ bits (word f)
    → a < length v → b ≢ a
    → Undoes f v (plus f v a b x) (λ w. minus f w a b x)
minus_undoes_plus f v a b x words low fits other =
    let m : ℕ = 2 ^ bits (word f) in
    assignment_undone f v a b _ (λ p q. ((p + (m - q)) % m + (m - x)) % m) words
    (mod_width-is_word f _) fits other
    (sum_undone f _ _ x (words a) (words b) low)

-- `minus` is undone by v[a] := v[a] + v[b] + x.
pub plus_undoes_minus : (f : Family) (v : List ℕ) (a b x : ℕ) → AreWords f v → x < 2 ^ bits (word f)
    → a < length v → b ≢ a
    → Undoes f v (minus f v a b x) (λ w. plus f w a b x)
plus_undoes_minus f v a b x words low fits other =
    assignment_undone f v a b _ (λ p q. (p + q + x) % 2 ^ bits (word f)) words
    (mod_width-is_word f _) fits other
    (difference_undone f _ _ x (words a) (words b) low)

-- The assignment v[c] := v[c] + v[d] is undone by `subtract_word`.
pub subtract_word_undoes_plus : (f : Family) (v : List ℕ) (c d : ℕ) → AreWords f v → c < length v
    → d ≢ c
    → Undoes f v (plus f v c d 0) (λ w. subtract_word f w c d)
subtract_word_undoes_plus f v c d words fits other =
    let m : ℕ = 2 ^ bits (word f) in
    assignment_undone f v c d _ (λ p q. (p + (m - q)) % m) words (mod_width-is_word f _) fits other
    (single_sum_undone f _ _ (words c) (words d))

-- `subtract_word` is undone by v[c] := v[c] + v[d].
pub plus_undoes_subtract_word : (f : Family) (v : List ℕ) (c d : ℕ) → AreWords f v → c < length v
    → d ≢ c
    → Undoes f v (subtract_word f v c d) (λ w. plus f w c d 0)
plus_undoes_subtract_word f v c d words fits other =
    assignment_undone f v c d _ (λ p q. (p + q + 0) % 2 ^ bits (word f)) words
    (mod_width-is_word f _) fits other
    (single_difference_undone f _ _ (words c) (words d))

-- The assignment v[d] := (v[d] ^ v[a]) >>> r is undone by `unrotate`.
pub unrotate_undoes_rotate : (f : Family) (v : List ℕ) (d a r : ℕ) → AreWords f v → d < length v
    → a ≢ d
    → Undoes f v (rotate f v d a r) (λ w. unrotate f w d a r)
unrotate_undoes_rotate f v d a r words fits other =
    let x : ℕ = slice_index v d in
    let y : ℕ = slice_index v a in
    let low : bit_xor x y < 2 ^ bits (word f) = xor_lt (bits (word f)) x y (words d) (words a) in
    assignment_undone f v d a _ (λ p q. bit_xor (rotate_left (word f) p r) q) words
    (rotate_right-lt f _ r low) fits other
    (ap (λ p. bit_xor p y) (rotate_left-rotate_right f (bit_xor x y) r low) ∙ xor_twice x y)

-- `unrotate` is undone by v[d] := (v[d] ^ v[a]) >>> r.
pub rotate_undoes_unrotate : (f : Family) (v : List ℕ) (d a r : ℕ) → AreWords f v → d < length v
    → a ≢ d
    → Undoes f v (unrotate f v d a r) (λ w. rotate f w d a r)
rotate_undoes_unrotate f v d a r words fits other =
    let x : ℕ = slice_index v d in
    let y : ℕ = slice_index v a in
    assignment_undone f v d a _ (λ p q. rotate_right (word f) (bit_xor p q) r) words
    (xor_lt (bits (word f)) _ y (rotate_left-lt f x r (words d)) (words a)) fits other
    (ap (λ p. rotate_right (word f) p r) (xor_twice (rotate_left (word f) x r) y)
    ∙ rotate_right-rotate_left f x r (words d))
