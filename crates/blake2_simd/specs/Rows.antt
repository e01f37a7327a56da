-- Sixteen words as four rows of four lanes, and what the lanes compute. Row r has the words 4r to
-- 4r + 3. Section numbers are those of RFC 7693.
use Rattle.std.specs.Prelude.{ℕ, ◌+◌, ◌-◌, ◌*◌, ◌%◌, ◌^◌, List, [], ◌∷◌, ◌++◌, take, drop, bit_xor}
use Rattle.std.specs.Prelude.{slice_index, slice_index_or}
use Rattle.std.specs.Int.{rotate_right, from_le_bytes, to_le_bytes}
use Rattle.std.specs.List.{flat_map}
use mir.Val.{bits}
use Rattle.blake2_simd.specs.Family.{Family, word, word_bytes, rotations}
use Rattle.blake2_simd.specs.Round.{mix}

-- ---- one row

-- The row whose lane j is f j.
abbrev pub four : (ℕ → ℕ) → List ℕ
four f = f 0 ∷ f 1 ∷ f 2 ∷ f 3 ∷ []

-- The sums of the lanes of a and b, modulo 2^w (2.3).
abbrev pub lane_sums : Family → List ℕ → List ℕ → List ℕ
lane_sums f a b = four (λ j. (slice_index a j + slice_index b j) % 2 ^ bits (word f))

-- The exclusive or of the lanes of a and b (2.3).
abbrev pub lane_xors : List ℕ → List ℕ → List ℕ
lane_xors a b = four (λ j. bit_xor (slice_index a j) (slice_index b j))

-- The row a with each lane rotated to the right by n mod w bits (2.3).
abbrev pub lane_rotations : Family → List ℕ → ℕ → List ℕ
lane_rotations f a n = four (λ j. rotate_right (word f) (slice_index a j) n)

-- The row a moved to the left by k lanes: its lane j is lane j + k of a, modulo 4.
abbrev pub shuffle_left : ℕ → List ℕ → List ℕ
shuffle_left k a = four (λ j. slice_index a ((j + k) % 4))

-- The row a moved to the right by k lanes, for k up to 4: its lane j is lane j - k of a, modulo 4.
abbrev pub shuffle_right : ℕ → List ℕ → List ℕ
shuffle_right k a = four (λ j. slice_index a ((j + 4 - k) % 4))

-- Word j of the bytes xs, in little-endian order (2.4).
abbrev pub word_at : Family → List ℕ → ℕ → ℕ
word_at f xs j = from_le_bytes (word f) (take (word_bytes f) (drop (word_bytes f * j) xs))

-- The bytes of the lanes, from lane 0 on, each in little-endian order (2.4).
abbrev pub lane_bytes : Family → List ℕ → List ℕ
lane_bytes f a = flat_map (to_le_bytes (word f)) a

-- ---- several rows

-- Lane j of row r. Rows and lanes are counted from 0.
abbrev pub lane : List (List ℕ) → ℕ → ℕ → ℕ
lane v r j = slice_index (slice_index_or v r []) j

-- The eight words of two rows, such as those of the state vector h (3.2).
abbrev pub chaining_words : List (List ℕ) → List ℕ
chaining_words h =
    lane h 0 0 ∷ lane h 0 1 ∷ lane h 0 2 ∷ lane h 0 3 ∷
    lane h 1 0 ∷ lane h 1 1 ∷ lane h 1 2 ∷ lane h 1 3 ∷ []

-- The sixteen words of four rows, such as those of the local vector v (3.2).
abbrev pub work_words : List (List ℕ) → List ℕ
work_words v =
    lane v 0 0 ∷ lane v 0 1 ∷ lane v 0 2 ∷ lane v 0 3 ∷
    lane v 1 0 ∷ lane v 1 1 ∷ lane v 1 2 ∷ lane v 1 3 ∷
    lane v 2 0 ∷ lane v 2 1 ∷ lane v 2 2 ∷ lane v 2 3 ∷
    lane v 3 0 ∷ lane v 3 1 ∷ lane v 3 2 ∷ lane v 3 3 ∷ []

-- ---- the two halves of a round

-- v after the mixings of its four columns: column j is mixed with words j of x and y (3.2).
unfoldable pub columns : Family → List ℕ → List ℕ → List ℕ → List ℕ
columns f v x y =
    let v1 = mix f v 0 4 8 12 (slice_index x 0) (slice_index y 0) in
    let v2 = mix f v1 1 5 9 13 (slice_index x 1) (slice_index y 1) in
    let v3 = mix f v2 2 6 10 14 (slice_index x 2) (slice_index y 2) in
    mix f v3 3 7 11 15 (slice_index x 3) (slice_index y 3)

-- The four rows after the rotation by R3 bits that the last of them still lacks (3.1).
abbrev pub rows_rotated : Family → List ℕ × List ℕ × List ℕ × List ℕ → List (List ℕ)
rows_rotated f rows =
    rows.0 ∷ rows.1 ∷ rows.2 ∷ lane_rotations f rows.3 (slice_index (rotations f) 2) ∷ []

-- The sixteen words of four rows after the rotation by R3 bits that the last row still lacks (3.1).
abbrev pub last_row_rotated : Family → List ℕ × List ℕ × List ℕ × List ℕ → List ℕ
last_row_rotated f rows = work_words (rows_rotated f rows)

-- The sixteen words v, with rows 0 to 3 moved to the left by k0, k1, k2 and k3 lanes.
abbrev pub shuffled_rows : ℕ → ℕ → ℕ → ℕ → List ℕ → List ℕ
shuffled_rows k0 k1 k2 k3 v =
    let row : ℕ → ℕ → List ℕ = λ r k. four (λ j. slice_index v (4 * r + (j + k) % 4)) in
    row 0 k0 ++ row 1 k1 ++ row 2 k2 ++ row 3 k3
