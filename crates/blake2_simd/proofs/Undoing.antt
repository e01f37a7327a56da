-- G can be undone, and so can a round. A round maps different lists of words to different lists.
use Rattle.std.proofs.Common.{◌≡◌, ℕ, ◌^◌, ◌<◌, List, length, slice_index, refl, sym, ap, ◌∙◌}
use Rattle.std.proofs.Common.{arith, lit<}
use mir.Val.{bits}
use Rattle.blake2_simd.specs.Family.{Family, word, rotations}
use Rattle.blake2_simd.specs.Round.{AreWords, mix, round}
use Rattle.blake2_simd.proofs.Assignments.{minus, subtract_word, unrotate, Undoes}
use Rattle.blake2_simd.proofs.Assignments.{minus_undoes_plus, plus_undoes_minus}
use Rattle.blake2_simd.proofs.Assignments.{subtract_word_undoes_plus, plus_undoes_subtract_word}
use Rattle.blake2_simd.proofs.Assignments.{unrotate_undoes_rotate, rotate_undoes_unrotate}

-- ---- G

-- Two steps are undone, the last first.
Undoes-compose : (f : Family) {u v w : List ℕ} {g h : List ℕ → List ℕ} → Undoes f u v g
    → Undoes f v w h
    → Undoes f u w (λ z. g (h z))
Undoes-compose f {g = g} s t = record {
  words = t.words;
  long = t.long ∙ s.long;
  undone = ap g t.undone ∙ s.undone;
}

-- v after the eight assignments of G are undone, the last first.
unfoldable pub unmix : Family → List ℕ → ℕ → ℕ → ℕ → ℕ → ℕ → ℕ → List ℕ
unmix f v a b c d x y =
    let v7 = unrotate f v b c (slice_index (rotations f) 3) in
    let v6 = subtract_word f v7 c d in
    let v5 = unrotate f v6 d a (slice_index (rotations f) 2) in
    let v4 = minus f v5 a b y in
    let v3 = unrotate f v4 b c (slice_index (rotations f) 1) in
    let v2 = subtract_word f v3 c d in
    let v1 = unrotate f v2 d a (slice_index (rotations f) 0) in
    minus f v1 a b x

-- G is undone by `unmix`.
unmix_undoes_mix : (f : Family) (v : List ℕ) (a b c d x y : ℕ) → AreWords f v
    → x < 2 ^ bits (word f)
    → y < 2 ^ bits (word f)
    → a < b → b < c → c < d → d < length v → Undoes f v (mix f v a b c d x y)
    (λ w. unmix f w a b c d x y)
unfolding mix unmix
unmix_undoes_mix f v a b c d x y words lx ly ab bc cd fits =
    let r : ℕ → ℕ = λ i. slice_index (rotations f) i in
    let s1 = minus_undoes_plus f v a b x words lx (omega arith) (omega arith) in
    let s2 =
    Undoes-compose f s1 (unrotate_undoes_rotate f _ d a (r 0) s1.words (omega arith)
    (omega arith)) in
    let s3 =
    Undoes-compose f s2 (subtract_word_undoes_plus f _ c d s2.words (omega arith) (omega arith)) in
    let s4 =
    Undoes-compose f s3 (unrotate_undoes_rotate f _ b c (r 1) s3.words (omega arith)
    (omega arith)) in
    let s5 =
    Undoes-compose f s4 (minus_undoes_plus f _ a b y s4.words ly (omega arith) (omega arith)) in
    let s6 =
    Undoes-compose f s5 (unrotate_undoes_rotate f _ d a (r 2) s5.words (omega arith)
    (omega arith)) in
    let s7 =
    Undoes-compose f s6 (subtract_word_undoes_plus f _ c d s6.words (omega arith) (omega arith)) in
    Undoes-compose f s7 (unrotate_undoes_rotate f _ b c (r 3) s7.words (omega arith) (omega arith))

-- `unmix` is undone by G.
mix_undoes_unmix : (f : Family) (v : List ℕ) (a b c d x y : ℕ) → AreWords f v
    → x < 2 ^ bits (word f)
    → y < 2 ^ bits (word f)
    → a < b → b < c → c < d → d < length v → Undoes f v (unmix f v a b c d x y)
    (λ w. mix f w a b c d x y)
unfolding mix unmix
mix_undoes_unmix f v a b c d x y words lx ly ab bc cd fits =
    let r : ℕ → ℕ = λ i. slice_index (rotations f) i in
    let s1 = rotate_undoes_unrotate f v b c (r 3) words (omega arith) (omega arith) in
    let s2 =
    Undoes-compose f s1 (plus_undoes_subtract_word f _ c d s1.words (omega arith) (omega arith)) in
    let s3 =
    Undoes-compose f s2 (rotate_undoes_unrotate f _ d a (r 2) s2.words (omega arith)
    (omega arith)) in
    let s4 =
    Undoes-compose f s3 (plus_undoes_minus f _ a b y s3.words ly (omega arith) (omega arith)) in
    let s5 =
    Undoes-compose f s4 (rotate_undoes_unrotate f _ b c (r 1) s4.words (omega arith)
    (omega arith)) in
    let s6 =
    Undoes-compose f s5 (plus_undoes_subtract_word f _ c d s5.words (omega arith) (omega arith)) in
    let s7 =
    Undoes-compose f s6 (rotate_undoes_unrotate f _ d a (r 0) s6.words (omega arith)
    (omega arith)) in
    Undoes-compose f s7 (plus_undoes_minus f _ a b x s7.words lx (omega arith) (omega arith))

-- G maps the words that undoing G leaves to the words that were given.
pub mix-unmix : (f : Family) (v : List ℕ) (a b c d x y : ℕ) → AreWords f v → x < 2 ^ bits (word f)
    → y < 2 ^ bits (word f)
    → a < b → b < c → c < d → d < length v → mix f (unmix f v a b c d x y) a b c d x y ≡ v
mix-unmix f v a b c d x y words lx ly ab bc cd fits =
    (mix_undoes_unmix f v a b c d x y words lx ly ab bc cd fits).undone

-- ---- the round

-- v after the eight mixings of a round are undone, the last first.
unfoldable unround : Family → List ℕ → List ℕ → List ℕ → List ℕ
unround f m s v =
    let at = λ (j : ℕ). slice_index m (slice_index s j) in
    let v7 = unmix f v 3 4 9 14 (at 14) (at 15) in
    let v6 = unmix f v7 2 7 8 13 (at 12) (at 13) in
    let v5 = unmix f v6 1 6 11 12 (at 10) (at 11) in
    let v4 = unmix f v5 0 5 10 15 (at 8) (at 9) in
    let v3 = unmix f v4 3 7 11 15 (at 6) (at 7) in
    let v2 = unmix f v3 2 6 10 14 (at 4) (at 5) in
    let v1 = unmix f v2 1 5 9 13 (at 2) (at 3) in
    unmix f v1 0 4 8 12 (at 0) (at 1)

-- A mixing of a round after others, with the words of m at the indices that are at i and j of s.
unmix_undoes_next_mix : {f : Family} {u v : List ℕ} {g : List ℕ → List ℕ} (m s : List ℕ)
    (a b c d i j : ℕ)
    → AreWords f m → length u ≡ 16 → a < b → b < c → c < d → d < 16 → Undoes f u v g
    → (let x = slice_index m (slice_index s i) in let y = slice_index m (slice_index s j) in
    Undoes f u (mix f v a b c d x y) (λ w. g (unmix f w a b c d x y)))
unmix_undoes_next_mix {f} {v = v} m s a b c d i j from_m long ab bc cd low before =
    Undoes-compose f before (unmix_undoes_mix f v a b c d _ _ before.words (from_m _) (from_m _) ab
    bc cd
    (omega (arith, before.long)))

-- A round is undone by `unround`.
unround_undoes_round : (f : Family) (v m s : List ℕ) → AreWords f v → AreWords f m → length v ≡ 16
    → Undoes f v (round f v m s) (unround f m s)
unfolding round unround
unround_undoes_round f v m s words from_m long =
    let s0 : Undoes f v v (λ w. w) = record { words = words; long = refl; undone = refl } in
    let s1 =
    unmix_undoes_next_mix m s 0 4 8 12 0 1 from_m long (lit< tt) (lit< tt) (lit< tt) (lit< tt) s0 in
    let s2 =
    unmix_undoes_next_mix m s 1 5 9 13 2 3 from_m long (lit< tt) (lit< tt) (lit< tt) (lit< tt) s1 in
    let s3 =
    unmix_undoes_next_mix m s 2 6 10 14 4 5 from_m long (lit< tt) (lit< tt) (lit< tt) (lit< tt)
    s2 in
    let s4 =
    unmix_undoes_next_mix m s 3 7 11 15 6 7 from_m long (lit< tt) (lit< tt) (lit< tt) (lit< tt)
    s3 in
    let s5 =
    unmix_undoes_next_mix m s 0 5 10 15 8 9 from_m long (lit< tt) (lit< tt) (lit< tt) (lit< tt)
    s4 in
    let s6 = unmix_undoes_next_mix m s 1 6 11 12 10 11 from_m long (lit< tt) (lit< tt) (lit< tt)
    (lit< tt) s5 in
    let s7 =
    unmix_undoes_next_mix m s 2 7 8 13 12 13 from_m long (lit< tt) (lit< tt) (lit< tt) (lit< tt)
    s6 in
    unmix_undoes_next_mix m s 3 4 9 14 14 15 from_m long (lit< tt) (lit< tt) (lit< tt) (lit< tt) s7

-- For given m and s, a round maps different lists of sixteen words to different lists.
pub round_injective : (f : Family) (u v m s : List ℕ) → AreWords f u → AreWords f v → AreWords f m
    → length u ≡ 16 → length v ≡ 16
    → round f u m s ≡ round f v m s → u ≡ v
round_injective f u v m s words_u words_v from_m long_u long_v same =
    sym ((unround_undoes_round f u m s words_u from_m long_u).undone) ∙ ap (unround f m s) same
    ∙ (unround_undoes_round f v m s words_v from_m long_v).undone
