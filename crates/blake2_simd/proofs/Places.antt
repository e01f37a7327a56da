-- G reads and writes only four words of a list: it is G on the list of those four words.
use Rattle.std.proofs.Common.{◌≡◌, ℕ, ◌<◌, List, [], ◌∷◌, length, get_or, set}
use Rattle.std.proofs.Common.{slice_index, sym, ap, ◌∙◌, arith}
use Rattle.std.proofs.lemmas.List.{length-map, length-set, map-set, get_or-map, set-get_or}
use Rattle.std.proofs.lemmas.List.{set_comm, get_or-set_same, get_or-set_other}
use Rattle.blake2_simd.specs.Family.{Family}
use Rattle.blake2_simd.specs.Round.{mix}
use Rattle.blake2_simd.specs.Lanes.{in_lane}
use Rattle.blake2_simd.proofs.Assignments.{set-set}

-- Four indices of v, in order.
record AreOrderedIndices (v : List ℕ) (a b c d : ℕ) : Type 0 where
  ab : a < b
  bc : b < c
  cd : c < d
  fits : d < length v

-- The list v with p, q, r and s at these indices.
abbrev pub written_at_four : List ℕ → ℕ → ℕ → ℕ → ℕ → ℕ → ℕ → ℕ → ℕ → List ℕ
written_at_four v a b c d p q r s = set (set (set (set v a p) b q) c r) d s

-- The word at each of these indices.
read_written_a : (v : List ℕ) (a b c d : ℕ) → AreOrderedIndices v a b c d → (p q r s : ℕ)
    → slice_index (written_at_four v a b c d p q r s) a ≡ p
read_written_a v a b c d h p q r s =
    get_or-set_other (set (set (set v a p) b q) c r) d a s 0 (omega arith)
    ∙ get_or-set_other (set (set v a p) b q) c a r 0 (omega arith)
    ∙ get_or-set_other (set v a p) b a q 0 (omega arith) ∙ get_or-set_same v a p 0 (omega arith)

read_written_b : (v : List ℕ) (a b c d : ℕ) → AreOrderedIndices v a b c d → (p q r s : ℕ)
    → slice_index (written_at_four v a b c d p q r s) b ≡ q
read_written_b v a b c d h p q r s =
    get_or-set_other (set (set (set v a p) b q) c r) d b s 0 (omega arith)
    ∙ get_or-set_other (set (set v a p) b q) c b r 0 (omega arith)
    ∙ get_or-set_same (set v a p) b q 0 (omega (arith, length-set {A = ℕ}))

read_written_c : (v : List ℕ) (a b c d : ℕ) → AreOrderedIndices v a b c d → (p q r s : ℕ)
    → slice_index (written_at_four v a b c d p q r s) c ≡ r
read_written_c v a b c d h p q r s =
    get_or-set_other (set (set (set v a p) b q) c r) d c s 0 (omega arith)
    ∙ get_or-set_same (set (set v a p) b q) c r 0 (omega (arith, length-set {A = ℕ}))

read_written_d : (v : List ℕ) (a b c d : ℕ) → AreOrderedIndices v a b c d → (p q r s : ℕ)
    → slice_index (written_at_four v a b c d p q r s) d ≡ s
read_written_d v a b c d h p q r s = get_or-set_same (set (set (set v a p) b q) c r) d s 0
    (omega (arith, length-set {A = ℕ}))

-- Another word written at each of these indices.
set_written_a : (v : List ℕ) (a b c d : ℕ) → AreOrderedIndices v a b c d → (p q r s t : ℕ)
    → set (written_at_four v a b c d p q r s) a t ≡ written_at_four v a b c d t q r s
set_written_a v a b c d h p q r s t =
    set_comm (set (set (set v a p) b q) c r) d a s t (omega arith)
    ∙ ap (λ l. set l d s) (set_comm (set (set v a p) b q) c a r t (omega arith))
    ∙ ap (λ l. set (set l c r) d s) (set_comm (set v a p) b a q t (omega arith))
    ∙ ap (λ l. set (set (set l b q) c r) d s) (set-set v a p t)

set_written_b : (v : List ℕ) (a b c d : ℕ) → AreOrderedIndices v a b c d → (p q r s t : ℕ)
    → set (written_at_four v a b c d p q r s) b t ≡ written_at_four v a b c d p t r s
set_written_b v a b c d h p q r s t =
    set_comm (set (set (set v a p) b q) c r) d b s t (omega arith)
    ∙ ap (λ l. set l d s) (set_comm (set (set v a p) b q) c b r t (omega arith))
    ∙ ap (λ l. set (set l c r) d s) (set-set (set v a p) b q t)

set_written_c : (v : List ℕ) (a b c d : ℕ) → AreOrderedIndices v a b c d → (p q r s t : ℕ)
    → set (written_at_four v a b c d p q r s) c t ≡ written_at_four v a b c d p q t s
set_written_c v a b c d h p q r s t =
    set_comm (set (set (set v a p) b q) c r) d c s t (omega arith)
    ∙ ap (λ l. set l d s) (set-set (set (set v a p) b q) c r t)

set_written_d : (v : List ℕ) (a b c d p q r s t : ℕ)
    → set (written_at_four v a b c d p q r s) d t ≡ written_at_four v a b c d p q r t
set_written_d v a b c d p q r s t = set-set (set (set (set v a p) b q) c r) d s t

-- Four words written over themselves.
written_at_four-same_words : (v : List ℕ) (a b c d : ℕ) → AreOrderedIndices v a b c d
    → v ≡ written_at_four v a b c d (slice_index v a) (slice_index v b) (slice_index v c)
    (slice_index v d)
written_at_four-same_words v a b c d h =
    sym (ap (λ l. set (set (set l b (slice_index v b)) c (slice_index v c)) d (slice_index v d))
    (set-get_or v a 0)
    ∙ ap (λ l. set (set l c (slice_index v c)) d (slice_index v d)) (set-get_or v b 0)
    ∙ ap (λ l. set l d (slice_index v d)) (set-get_or v c 0) ∙ set-get_or v d 0)

-- G at the indices of four written words is G on these words, written back.
mix-of_written_words : (f : Family) (v : List ℕ) (a b c d x y p q r s : ℕ)
    → AreOrderedIndices v a b c d
    → (let m = mix f (p ∷ q ∷ r ∷ s ∷ []) 0 1 2 3 x y in written_at_four v a b c d (slice_index m 0)
    (slice_index m 1) (slice_index m 2) (slice_index m 3))
    ≡ mix f (written_at_four v a b c d p q r s) a b c d x y
unfolding mix
mix-of_written_words f v a b c d x y p q r s h =
    simp (
      read_written_a v a b c d h,
      read_written_b v a b c d h,
      read_written_c v a b c d h,
      read_written_d v a b c d h,
      set_written_a v a b c d h,
      set_written_b v a b c d h,
      set_written_c v a b c d h,
      set_written_d v a b c d,
    )

-- G at four indices of v is G on the four words there, written back.
mix-at_four_indices : (f : Family) (v : List ℕ) (a b c d x y p q r s : ℕ)
    → AreOrderedIndices v a b c d
    → p ∷ q ∷ r ∷ s ∷ [] ≡ mix f (slice_index v a ∷ slice_index v b ∷ slice_index v c
    ∷ slice_index v d ∷ []) 0 1 2 3 x y
    → written_at_four v a b c d p q r s ≡ mix f v a b c d x y
mix-at_four_indices f v a b c d x y p q r s h e =
    (λ i. written_at_four v a b c d (slice_index (e i) 0) (slice_index (e i) 1)
    (slice_index (e i) 2)
    (slice_index (e i) 3))
    ∙ mix-of_written_words f v a b c d x y _ _ _ _ h
    ∙ ap (λ w. mix f w a b c d x y) (sym (written_at_four-same_words v a b c d h))

-- The same in one lane of several rows, four of which are written.
pub mix_in_lane : (f : Family) (v : List (List ℕ)) (a b c d : ℕ) (da db dc dd p q r s : List ℕ)
    (j x y : ℕ) → (a < b) × (b < c) × (c < d) × (d < length v)
    → in_lane j (p ∷ q ∷ r ∷ s ∷ []) ≡ mix f (in_lane j (get_or v a da ∷ get_or v b db
    ∷ get_or v c dc ∷ get_or v d dd ∷ [])) 0 1 2 3 x y
    → in_lane j (set (set (set (set v a p) b q) c r) d s) ≡ mix f (in_lane j v) a b c d x y
mix_in_lane f v a b c d da db dc dd p q r s j x y order e =
    let at : List ℕ → ℕ = λ row. slice_index row j in
    let u : List ℕ = in_lane j v in
    let long : length u ≡ length v = length-map v at in
    let ea : at (get_or v a da) ≡ slice_index u a = sym (get_or-map at v a da 0 (omega arith)) in
    let eb : at (get_or v b db) ≡ slice_index u b = sym (get_or-map at v b db 0 (omega arith)) in
    let ec : at (get_or v c dc) ≡ slice_index u c = sym (get_or-map at v c dc 0 (omega arith)) in
    let ed : at (get_or v d dd) ≡ slice_index u d = sym (get_or-map at v d dd 0 (omega arith)) in
    map-set at (set (set (set v a p) b q) c r) d s
    ∙ ap (λ l. set l d (at s)) (map-set at (set (set v a p) b q) c r
    ∙ ap (λ l. set l c (at r)) (map-set at (set v a p) b q
    ∙ ap (λ l. set l b (at q)) (map-set at v a p)))
    ∙ mix-at_four_indices f u a b c d x y (at p) (at q) (at r) (at s)
    (record { ab = order.0; bc = order.1; cd = order.2; fits = omega arith })
    (e ∙ (λ i. mix f (ea i ∷ eb i ∷ ec i ∷ ed i ∷ []) 0 1 2 3 x y))
