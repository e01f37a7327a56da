-- Lists of one length, joined, and what is read from them.
use Rattle.std.proofs.Common.{◌≡◌, ℕ, zero, suc, ◌+◌, ◌-◌, ◌*◌, ◌<◌, ◌≤◌, List, [], ◌∷◌, ◌++◌}
use Rattle.std.proofs.Common.{length}
use Rattle.std.proofs.Common.{take, drop, slice_index_or, refl, sym, ap, ◌∙◌, arith, length-drop}
use Rattle.std.proofs.lemmas.List.{drop-drop, drop_at, drop-append-le, take-append-le}
use Rattle.std.specs.List.{flat_map, range_with_len}

-- n lists from g a on, joined.
abbrev pub joined_lists : (ℕ → List ℕ) → ℕ → ℕ → List ℕ
joined_lists g a n = flat_map g (range_with_len a n)

-- What follows the first i of them, if those have s elements each.
pub drop-joined_lists : (g : ℕ → List ℕ) (s a i n : ℕ) → ((j : ℕ) → j < i → length (g (a + j)) ≡ s)
    → i ≤ n → drop (i * s) (joined_lists g a n) ≡ joined_lists g (a + i) (n - i)
drop-joined_lists g s a zero n whole within =
    let none : 0 * s ≡ 0 = omega arith in
    let here : a ≡ a + 0 = omega arith in
    let all : n ≡ n - 0 = omega arith in
    ap (λ (m : ℕ). drop m (joined_lists g a n)) none ∙ (λ k. joined_lists g (here k) (all k))
drop-joined_lists g s a (suc i) zero whole within = absurd (omega arith)
drop-joined_lists g s a (suc i) (suc n) whole within =
    let more : suc i * s ≡ s + i * s = omega arith in
    let first : length (g a) ≡ s = ap (λ (m : ℕ). length (g m)) (omega arith) ∙ whole 0 (omega arith)
    in
    let next : a + 1 + i ≡ a + suc i = omega arith in
    let left : n - i ≡ suc n - suc i = omega arith in
    ap (λ (m : ℕ). drop m (joined_lists g a (suc n))) more
    ∙ sym (drop-drop (i * s) s (joined_lists g a (suc n)))
    ∙ ap (drop (i * s)) (drop_at (g a) (joined_lists g (a + 1) n) s first)
    ∙ drop-joined_lists g s (a + 1) i n (λ j lt.
    ap (λ (m : ℕ). length (g m)) (omega arith) ∙ whole (suc j) (omega arith)) (omega arith)
    ∙ (λ k. joined_lists g (next k) (left k))

-- The first k of them, if those have s elements each.
pub take-joined_lists : (g : ℕ → List ℕ) (s a k n : ℕ) → ((j : ℕ) → j < k → length (g (a + j)) ≡ s)
    → k ≤ n → take (k * s) (joined_lists g a n) ≡ joined_lists g a k
take-joined_lists g s a zero n whole within =
    let none : 0 * s ≡ 0 = omega arith in
    ap (λ (m : ℕ). take m (joined_lists g a n)) none
take-joined_lists g s a (suc k) zero whole within = absurd (omega arith)
take-joined_lists g s a (suc k) (suc n) whole within =
    let more : suc k * s ≡ s + k * s = omega arith in
    let first : length (g a) ≡ s = ap (λ (m : ℕ). length (g m)) (omega arith) ∙ whole 0 (omega arith)
    in
    ap (λ (m : ℕ). take m (joined_lists g a (suc n))) more
    ∙ take_further (g a) (joined_lists g (a + 1) n) s (k * s) first
    ∙ ap (λ (l : List ℕ). g a ++ l) (take-joined_lists g s (a + 1) k n (λ j lt.
    ap (λ (m : ℕ). length (g m)) (omega arith) ∙ whole (suc j) (omega arith)) (omega arith))
  where
    take_further : (x y : List ℕ) (s m : ℕ) → length x ≡ s → take (s + m) (x ++ y) ≡ x ++ take m y
    take_further [] y s m e = ap (λ (k : ℕ). take k y) (omega arith)
    take_further (a ∷ x) y zero m e = absurd (omega arith)
    take_further (a ∷ x) y (suc s) m e =
        let next : suc s + m ≡ suc (s + m) = omega arith in
        ap (λ (k : ℕ). take k (a ∷ (x ++ y))) next
        ∙ ap (λ (l : List ℕ). a ∷ l) (take_further x y s m (omega arith))

-- m elements of list i from index x on, if the lists before have s elements each.
pub take_drop-within_one_list : (g : ℕ → List ℕ) (s i n x m : ℕ)
    → ((j : ℕ) → j < i → length (g j) ≡ s) → i < n
    → x + m ≤ length (g i) → take m (drop (i * s + x) (joined_lists g 0 n)) ≡ take m (drop x (g i))
take_drop-within_one_list g s i n x m whole within fits =
    let zeros : (j : ℕ) → 0 + j ≡ j = λ j. omega arith in
    let left : n - i ≡ suc (n - i - 1) = omega arith in
    let rest : List ℕ = joined_lists g (i + 1) (n - i - 1) in
    ap (take m) (sym (drop-drop x (i * s) (joined_lists g 0 n))
    ∙ ap (drop x) (drop-joined_lists g s 0 i n
    (λ j lt. ap (λ (k : ℕ). length (g k)) (zeros j) ∙ whole j lt) (omega arith)
    ∙ (λ k. joined_lists g (zeros i k) (left k)))
    ∙ drop-append-le x (g i) rest (omega arith))
    ∙ take-append-le m (drop x (g i)) rest (omega (arith, length-drop x (g i)))

-- k whole lists from list i on.
pub take_drop-whole_lists : (g : ℕ → List ℕ) (s i n k : ℕ)
    → ((j : ℕ) → j < i + k → length (g j) ≡ s)
    → i + k ≤ n → take (k * s) (drop (i * s) (joined_lists g 0 n)) ≡ joined_lists g i k
take_drop-whole_lists g s i n k whole within =
    let zeros : (j : ℕ) → 0 + j ≡ j = λ j. omega arith in
    ap (take (k * s)) (drop-joined_lists g s 0 i n
    (λ j lt. ap (λ (k : ℕ). length (g k)) (zeros j) ∙ whole j (omega arith)) (omega arith)
    ∙ ap (λ (a : ℕ). joined_lists g a (n - i)) (zeros i))
    ∙ take-joined_lists g s i k (n - i) (λ j lt. whole (i + j) (omega arith)) (omega arith)

-- The joined elements of a list are those over a range, if each is.
pub concat-is_joined_lists : (p : ℕ → List ℕ) (a n : ℕ) (xs : List (List ℕ)) → length xs ≡ n
    → ((j : ℕ) → j < n → slice_index_or xs j [] ≡ p (a + j))
    → flat_map (λ x. x) xs ≡ joined_lists p a n
concat-is_joined_lists p a zero [] long at = refl
concat-is_joined_lists p a zero (x ∷ xs) long at = absurd (omega arith)
concat-is_joined_lists p a (suc n) [] long at = absurd (omega arith)
concat-is_joined_lists p a (suc n) (x ∷ xs) long at =
    let first : a + 0 ≡ a = omega arith in
    let here : x ≡ p a = at 0 (omega arith) ∙ ap p first in
    let rest = concat-is_joined_lists p (a + 1) n xs (omega arith) (λ j lt.
    let next : a + suc j ≡ a + 1 + j = omega arith in
    at (suc j) (omega arith) ∙ ap p next) in
    (λ i. here i ++ rest i)
