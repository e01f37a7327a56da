-- The third rotation of G is by whole bytes. So it is a choice of the bytes of a row.
use Rattle.std.proofs.Common.{◌≡◌, ℕ, suc, ◌+◌, ◌*◌, ◌/◌, ◌%◌, ◌^◌, ◌<◌, List, [], ◌∷◌, ◌++◌}
use Rattle.std.proofs.Common.{length, slice_index, map, refl, sym, ap, ◌∙◌, arith, lit<}
use Rattle.std.specs.Int.{byte_at, rotate_right}
use Rattle.std.specs.List.{flat_map}
use Rattle.std.specs.Simd.Lanes.{number_l, digits_l, pick_l}
use mir.Val.{bits}
use Rattle.blake2_simd.specs.Family.{Family, word, word_bytes, rotations, blake2b, blake2s}
use Rattle.blake2_simd.specs.Round.{AreWords}
use Rattle.blake2_simd.specs.Rows.{lane_bytes}
use Rattle.blake2_simd.proofs.Bytes.{digits_l-are_lane_bytes}
use Rattle.blake2_simd.proofs.Rotations.{rotate_right-sum}
use Rattle.blake2_simd.proofs.Words.{cells, cells-drop, rotate_right-lt}

-- The bytes of a word x after that rotation, in little-endian order.
abbrev rotated_bytes : Family → ℕ → List ℕ
rotated_bytes blake2b x = byte_at 2 x ∷ byte_at 3 x ∷ byte_at 4 x ∷ byte_at 5 x ∷ byte_at 6 x
    ∷ byte_at 7 x ∷ byte_at 0 x ∷ byte_at 1 x ∷ []
rotated_bytes blake2s x = byte_at 1 x ∷ byte_at 2 x ∷ byte_at 3 x ∷ byte_at 0 x ∷ []

-- These bytes make the rotated word.
rotated_bytes-make_rotated_word : (f : Family) (x : ℕ) → x < 2 ^ bits (word f)
    → number_l 256 (rotated_bytes f x) ≡ rotate_right (word f) x (slice_index (rotations f) 2)
rotated_bytes-make_rotated_word blake2b x fits = omega arith ∙ sym
    (rotate_right-sum blake2b x 16 (lit< tt) (lit< tt) fits)
rotated_bytes-make_rotated_word blake2s x fits = omega arith ∙ sym
    (rotate_right-sum blake2s x 8 (lit< tt) (lit< tt) fits)

-- A word after that rotation.
abbrev pub rotated_word : Family → ℕ → ℕ
rotated_word f x = rotate_right (word f) x (slice_index (rotations f) 2)

-- The bytes of several words, each rotated.
abbrev rotated_row_bytes : Family → List ℕ → List ℕ
rotated_row_bytes f xs = flat_map (rotated_bytes f) xs

-- Bytes that begin with those of a word.
number_l-word_prefix : (f : Family) (x : ℕ) (ys : List ℕ)
    → number_l 256 (rotated_bytes f x ++ ys) ≡ number_l 256 (rotated_bytes f x)
    + 2 ^ bits (word f) * number_l 256 ys
number_l-word_prefix blake2b x ys = omega arith
number_l-word_prefix blake2s x ys = omega arith

-- A number whose last digit is x, and its other digits.
low_word-of_sum : (f : Family) (x y : ℕ) → x < 2 ^ bits (word f)
    → (x + 2 ^ bits (word f) * y) % 2 ^ bits (word f) ≡ x
low_word-of_sum blake2b x y low = omega arith
low_word-of_sum blake2s x y low = omega arith

high_words-of_sum : (f : Family) (x y : ℕ) → x < 2 ^ bits (word f)
    → (x + 2 ^ bits (word f) * y) / 2 ^ bits (word f) ≡ y
high_words-of_sum blake2b x y low = omega arith
high_words-of_sum blake2s x y low = omega arith

-- Read as lanes, these bytes are the rotated words.
rotated_row_bytes-make_words : (f : Family) (xs : List ℕ) → AreWords f xs
    → digits_l (2 ^ bits (word f)) (length xs) (number_l 256 (rotated_row_bytes f xs))
    ≡ map (rotated_word f) xs
rotated_row_bytes-make_words f [] words = refl
rotated_row_bytes-make_words f (x ∷ xs) words =
    let q : ℕ = 2 ^ bits (word f) in
    let y : ℕ = number_l 256 (rotated_row_bytes f xs) in
    let low : rotated_word f x < q = rotate_right-lt f x _ (words 0) in
    let whole : number_l 256 (rotated_row_bytes f (x ∷ xs)) ≡ rotated_word f x + q * y =
    number_l-word_prefix f x _
    ∙ ap (λ (n : ℕ). n + q * y) (rotated_bytes-make_rotated_word f x (words 0)) in
    λ i.
    (ap (λ (n : ℕ). n % q) whole ∙ low_word-of_sum f (rotated_word f x) y low) i ∷
    (ap (λ (n : ℕ). digits_l q (length xs) (n / q)) whole
    ∙ ap (digits_l q (length xs)) (high_words-of_sum f (rotated_word f x) y low)
    ∙ rotated_row_bytes-make_words f xs (λ k. words (suc k))) i

-- ---- a row of 32 bytes

-- The number of words in such a row.
abbrev pub lane_count : Family → ℕ
lane_count blake2b = 4
lane_count blake2s = 8

-- The indices of the bytes of its lanes.
abbrev pub rotated_byte_indices : Family → List ℕ
rotated_byte_indices blake2b =
    2 ∷ 3 ∷ 4 ∷ 5 ∷ 6 ∷ 7 ∷ 0 ∷ 1 ∷ 10 ∷ 11 ∷ 12 ∷ 13 ∷ 14 ∷ 15 ∷ 8 ∷ 9 ∷
    18 ∷ 19 ∷ 20 ∷ 21 ∷ 22 ∷ 23 ∷ 16 ∷ 17 ∷ 26 ∷ 27 ∷ 28 ∷ 29 ∷ 30 ∷ 31 ∷ 24 ∷ 25 ∷ []
rotated_byte_indices blake2s =
    1 ∷ 2 ∷ 3 ∷ 0 ∷ 5 ∷ 6 ∷ 7 ∷ 4 ∷ 9 ∷ 10 ∷ 11 ∷ 8 ∷ 13 ∷ 14 ∷ 15 ∷ 12 ∷
    17 ∷ 18 ∷ 19 ∷ 16 ∷ 21 ∷ 22 ∷ 23 ∷ 20 ∷ 25 ∷ 26 ∷ 27 ∷ 24 ∷ 29 ∷ 30 ∷ 31 ∷ 28 ∷ []

-- The bytes at these indices.
picked_bytes-are_rotated_row : (f : Family) (xs : List ℕ) → let bytes =
    lane_bytes f (cells xs 0 (lane_count f)) in
    pick_l 0 (bytes ++ bytes) (rotated_byte_indices f)
    ≡ rotated_row_bytes f (cells xs 0 (lane_count f))
picked_bytes-are_rotated_row blake2b xs = refl
picked_bytes-are_rotated_row blake2s xs = refl

-- The lanes of a vector whose bytes are chosen in this way: rotated.
pub picked_bytes-rotate_lanes : (f : Family) (xs : List ℕ) → length xs ≡ lane_count f
    → AreWords f xs
    → let bytes = digits_l 256 32 (number_l (2 ^ bits (word f)) xs) in
    digits_l (2 ^ bits (word f)) (lane_count f)
    (number_l 256 (pick_l 0 (bytes ++ bytes) (rotated_byte_indices f)))
    ≡ map (rotated_word f) xs
picked_bytes-rotate_lanes f xs long words =
    let q : ℕ = 2 ^ bits (word f) in
    let chosen : List ℕ → List ℕ = λ zs. pick_l 0 (zs ++ zs) (rotated_byte_indices f) in
    let all : length xs ≡ 0 + lane_count f = omega arith in
    let listed : cells xs 0 (lane_count f) ≡ xs = cells-drop xs 0 (lane_count f) all in
    let picked : chosen (lane_bytes f xs) ≡ rotated_row_bytes f xs =
    ap (λ ys. chosen (lane_bytes f ys)) (sym listed) ∙ picked_bytes-are_rotated_row f xs
    ∙ ap (rotated_row_bytes f) listed in
    ap (λ (zs : List ℕ). digits_l q (lane_count f) (number_l 256 (chosen zs)))
    (digits_l-are_lane_bytes f 32 xs (row_size f ∙ ap (λ (k : ℕ). word_bytes f * k) (sym long))
    words)
    ∙ ap (λ (zs : List ℕ). digits_l q (lane_count f) (number_l 256 zs)) picked
    ∙ ap (λ (k : ℕ). digits_l q k (number_l 256 (rotated_row_bytes f xs))) (sym long)
    ∙ rotated_row_bytes-make_words f xs words
  where
    row_size : (f : Family) → 32 ≡ word_bytes f * lane_count f
    row_size blake2b = refl
    row_size blake2s = refl
