-- The mixing function G and a round of the compression, on a list of sixteen words. Section numbers
-- are those of RFC 7693.
use Rattle.std.specs.Prelude.{ℕ, ◌+◌, ◌%◌, ◌^◌, ◌<◌, List, bit_xor, set, slice_index}
use Rattle.std.specs.Int.{rotate_right}
use mir.Val.{bits}
use Rattle.blake2_simd.specs.Family.{Family, word, rotations}

-- Every element is a word of the family, below 2^w (2.1).
abbrev pub AreWords : Family → List ℕ → Type 0
AreWords f xs = (i : ℕ) → slice_index xs i < 2 ^ bits (word f)

-- v after v[a] := (v[a] + v[b] + x) mod 2^w (3.1).
abbrev pub plus : Family → List ℕ → ℕ → ℕ → ℕ → List ℕ
plus f v a b x = set v a ((slice_index v a + slice_index v b + x) % 2 ^ bits (word f))

-- v after v[d] := (v[d] ^ v[a]) >>> r (3.1).
abbrev pub rotate : Family → List ℕ → ℕ → ℕ → ℕ → List ℕ
rotate f v d a r = set v d (rotate_right (word f) (bit_xor (slice_index v d) (slice_index v a)) r)

-- G: v after its words at indices a, b, c and d are mixed with the words x and y (3.1).
unfoldable pub mix : Family → List ℕ → ℕ → ℕ → ℕ → ℕ → ℕ → ℕ → List ℕ
mix f v a b c d x y =
    let v1 = plus f v a b x in
    let v2 = rotate f v1 d a (slice_index (rotations f) 0) in
    let v3 = plus f v2 c d 0 in
    let v4 = rotate f v3 b c (slice_index (rotations f) 1) in
    let v5 = plus f v4 a b y in
    let v6 = rotate f v5 d a (slice_index (rotations f) 2) in
    let v7 = plus f v6 c d 0 in
    rotate f v7 b c (slice_index (rotations f) 3)

-- v after a round, with the words m of the block and a row s of numbers below 16 (3.2).
unfoldable pub round : Family → List ℕ → List ℕ → List ℕ → List ℕ
round f v m s =
    let at = λ (j : ℕ). slice_index m (slice_index s j) in
    let v1 = mix f v 0 4 8 12 (at 0) (at 1) in
    let v2 = mix f v1 1 5 9 13 (at 2) (at 3) in
    let v3 = mix f v2 2 6 10 14 (at 4) (at 5) in
    let v4 = mix f v3 3 7 11 15 (at 6) (at 7) in
    let v5 = mix f v4 0 5 10 15 (at 8) (at 9) in
    let v6 = mix f v5 1 6 11 12 (at 10) (at 11) in
    let v7 = mix f v6 2 7 8 13 (at 12) (at 13) in
    mix f v7 3 4 9 14 (at 14) (at 15)
