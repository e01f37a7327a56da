-- The lengths of the lists of words that F works on and returns.
use Rattle.std.proofs.Common.{◌≡◌, ℕ, zero, suc, ◌-◌, ◌/◌, ◌%◌, ◌^◌, List, [], ◌∷◌, length, take}
use Rattle.std.proofs.Common.{drop, refl, sym, ap, ◌∙◌, arith, length-append, length-drop}
use Rattle.std.proofs.lemmas.List.{length-take-le}
use Rattle.std.specs.Prelude.{if◌then◌else◌}
use mir.Val.{bits}
use Rattle.blake2_simd.specs.Family.{Family, blake2b, blake2s, word, iv, rounds}
use Rattle.blake2_simd.proofs.Words.{length-round}
use Rattle.blake2_compress.specs.Hash.{Flags, words_of, xor_words, after_rounds, before_rounds}
use Rattle.blake2_compress.specs.Hash.{compress}

-- ---- the rounds

-- The rounds keep the length.
length-after_rounds : (f : Family) (v m : List ℕ) (n : ℕ) → length (after_rounds f v m n) ≡ length v
unfolding after_rounds
length-after_rounds f v m zero = refl
length-after_rounds f v m (suc n) = length-round f _ m _ ∙ length-after_rounds f v m n

-- ---- lists of words

-- The length of the exclusive or of lists of one length.
pub length-xor_words : (xs ys : List ℕ) → length xs ≡ length ys
    → length (xor_words xs ys) ≡ length xs
unfolding xor_words
length-xor_words [] [] h = refl
length-xor_words [] (y ∷ ys) h = refl
length-xor_words (x ∷ xs) [] h = sym h
length-xor_words (x ∷ xs) (y ∷ ys) h = ap suc (length-xor_words xs ys (omega arith))

-- IV is eight words long.
pub length-iv : (f : Family) → length (iv f) ≡ 8
length-iv blake2b = refl
length-iv blake2s = refl

-- ---- F

-- F works on sixteen numbers.
pub length-before_rounds : (f : Family) (h : List ℕ) (t : ℕ) (flags : Flags) → length h ≡ 8
    → length (before_rounds f h t flags) ≡ 16
unfolding before_rounds
length-before_rounds f h t flags e =
    let w = bits (word f) in
    let last = if flags.last then 2 ^ w - 1 else 0 in
    let last_node = if flags.last_node then 2 ^ w - 1 else 0 in
    let marks : List ℕ = 0 ∷ 0 ∷ 0 ∷ 0 ∷ t % 2 ^ w ∷ t / 2 ^ w ∷ last ∷ last_node ∷ [] in
    let long : length (iv f) ≡ 8 = length-iv f in
    omega (arith, length-append h (xor_words (iv f) marks), length-xor_words (iv f) marks long)

-- F returns eight words.
pub length-compress : (f : Family) (h b : List ℕ) (t : ℕ) (flags : Flags) → length h ≡ 8
    → length (compress f h b t flags) ≡ 8
unfolding compress
length-compress f h b t flags e =
    let v : List ℕ = after_rounds f (before_rounds f h t flags) (words_of f 16 b) (rounds f) in
    let lv : length v ≡ 16 = length-after_rounds f _ _ (rounds f)
    ∙ length-before_rounds f h t flags e in
    let low : length (take 8 v) ≡ 8 = length-take-le 8 v (omega arith) in
    let inner : length (xor_words h (take 8 v)) ≡ 8 =
    length-xor_words h (take 8 v) (omega arith) ∙ e in
    length-xor_words (xor_words h (take 8 v)) (drop 8 v) (omega (arith, length-drop 8 v)) ∙ inner
