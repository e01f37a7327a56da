-- What holds for each lane, and mixings lane by lane.
use Rattle.std.proofs.Common.{◌≡◌, ℕ, zero, suc, ◌<◌, List, [], ◌∷◌, ◌++◌, slice_index}
use Rattle.std.proofs.Common.{slice_index_or, refl, arith}
use Rattle.blake2_simd.specs.Family.{Family}
use Rattle.blake2_simd.specs.Round.{mix}
use Rattle.blake2_simd.specs.Rows.{work_words, columns}
use Rattle.blake2_simd.specs.Lanes.{in_lane}

-- What holds for each of n lanes.
abbrev pub EachLane : ℕ → (ℕ → Type 0) → Type 0
EachLane zero P = Unit {0}
EachLane (suc n) P = P 0 × EachLane n (λ j. P (suc j))

pub EachLane-at : (n : ℕ) (P : ℕ → Type 0) → EachLane n P → (j : ℕ) → j < n → P j
EachLane-at zero P e j h = absurd (omega arith)
EachLane-at (suc n) P e zero h = e.0
EachLane-at (suc n) P e (suc j) h = EachLane-at n (λ k. P (suc k)) e.1 j (omega arith)

-- The numbers p 0 to p (n - 1).
abbrev pub tabulate : {X : Type 0} → ℕ → (ℕ → X) → List X
tabulate zero p = []
tabulate (suc n) p = p 0 ∷ tabulate n (λ j. p (suc j))

-- Element j of a list that is given element by element.
pub tabulate-at : {X : Type 0} (n : ℕ) (f : ℕ → X) (d : X) (j : ℕ) → j < n
    → slice_index_or (tabulate n f) j d ≡ f j
tabulate-at zero f d j h = absurd (omega arith)
tabulate-at (suc n) f d zero h = refl
tabulate-at (suc n) f d (suc j) h = tabulate-at n (λ k. f (suc k)) d j (omega arith)

-- A list without its first element.
abbrev rest : List (List ℕ) → List (List ℕ)
rest [] = []
rest (x ∷ xs) = xs

-- What is equal in each of them.
pub tabulate-injective : (n : ℕ) (p q : ℕ → List ℕ) → tabulate n p ≡ tabulate n q → (j : ℕ) → j < n
    → p j ≡ q j
tabulate-injective zero p q e j h = absurd (omega arith)
tabulate-injective (suc n) p q e zero h = λ i. slice_index_or (e i) 0 []
tabulate-injective (suc n) p q e (suc j) h = tabulate-injective n (λ k. p (suc k)) (λ k. q (suc k))
    (λ i. rest (e i)) j (omega arith)

-- What holds for each of four lanes.
pub for_each_of_four_lanes : (P : ℕ → Type 0) → P 0 → P 1 → P 2 → P 3 → (j : ℕ) → j < 4 → P j
for_each_of_four_lanes P a b c d = EachLane-at 4 P (a, (b, (c, (d, tt))))

-- What holds for each of eight lanes.
pub for_each_of_eight_lanes : (P : ℕ → Type 0) → P 0 → P 1 → P 2 → P 3 → P 4 → P 5 → P 6 → P 7
    → (j : ℕ) → j < 8 → P j
for_each_of_eight_lanes P a b c d e f g h =
    EachLane-at 8 P (a, (b, (c, (d, (e, (f, (g, (h, tt))))))))

-- What four lists are, each in its lane.
pub list_of_four-at_lane : {X : Type 0} (p : ℕ → List X) (a b c d : List X)
    → a ≡ p 0 → b ≡ p 1 → c ≡ p 2 → d ≡ p 3
    → (j : ℕ) → j < 4 → slice_index_or (a ∷ b ∷ c ∷ d ∷ []) j [] ≡ p j
list_of_four-at_lane p a b c d =
    for_each_of_four_lanes (λ j. slice_index_or (a ∷ b ∷ c ∷ d ∷ []) j [] ≡ p j)

-- What eight lists are, each in its lane.
pub list_of_eight-at_lane : {X : Type 0} (p : ℕ → List X) (a b c d e f g h : List X)
    → a ≡ p 0 → b ≡ p 1 → c ≡ p 2 → d ≡ p 3 → e ≡ p 4 → f ≡ p 5 → g ≡ p 6 → h ≡ p 7
    → (j : ℕ) → j < 8 → slice_index_or (a ∷ b ∷ c ∷ d ∷ e ∷ f ∷ g ∷ h ∷ []) j [] ≡ p j
list_of_eight-at_lane p a b c d e f g h =
    for_each_of_eight_lanes (λ j. slice_index_or (a ∷ b ∷ c ∷ d ∷ e ∷ f ∷ g ∷ h ∷ []) j [] ≡ p j)

-- If the lanes of rows are those of a, b, c and d, each mixed, the columns are those of a, b, c and
-- d, mixed.
pub columns-from_mixed_lanes : (f : Family) (a b c d x y p q r s : List ℕ)
    → ((j : ℕ) → j < 4 → in_lane j (p ∷ q ∷ r ∷ s ∷ [])
    ≡ mix f (in_lane j (a ∷ b ∷ c ∷ d ∷ [])) 0 1 2 3 (slice_index x j) (slice_index y j))
    → work_words (p ∷ q ∷ r ∷ s ∷ []) ≡ columns f (work_words (a ∷ b ∷ c ∷ d ∷ [])) x y
unfolding mix columns
columns-from_mixed_lanes f a b c d x y p q r s e =
    let e0 = e 0 (omega arith) in
    let e1 = e 1 (omega arith) in
    let e2 = e 2 (omega arith) in
    let e3 = e 3 (omega arith) in
    let row : ℕ → List ℕ → List ℕ → List ℕ → List ℕ → List ℕ =
    λ k w0 w1 w2 w3. slice_index w0 k ∷ slice_index w1 k ∷ slice_index w2 k ∷ slice_index w3 k
    ∷ [] in
    λ i. row 0 (e0 i) (e1 i) (e2 i) (e3 i) ++ row 1 (e0 i) (e1 i) (e2 i) (e3 i)
    ++ row 2 (e0 i) (e1 i) (e2 i) (e3 i) ++ row 3 (e0 i) (e1 i) (e2 i) (e3 i)
