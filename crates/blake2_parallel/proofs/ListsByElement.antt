-- Lists that are put together element by element.
use Rattle.std.proofs.Common.{◌≡◌, ℕ, zero, suc, ◌+◌, ◌<◌, List, [], ◌∷◌, ◌++◌, length}
use Rattle.std.proofs.Common.{slice_index_or, refl, ap, ◌∙◌, arith}
use Rattle.std.specs.List.{flat_map, range_with_len}

-- The joined elements of a list are those over a range, if each is.
pub concat-is_flat_map_range : (p : ℕ → List ℕ) (a n : ℕ) (xs : List (List ℕ)) → length xs ≡ n
    → ((j : ℕ) → j < n → slice_index_or xs j [] ≡ p (a + j))
    → flat_map (λ x. x) xs ≡ flat_map p (range_with_len a n)
concat-is_flat_map_range p a zero [] long at = refl
concat-is_flat_map_range p a zero (x ∷ xs) long at = absurd (omega arith)
concat-is_flat_map_range p a (suc n) [] long at = absurd (omega arith)
concat-is_flat_map_range p a (suc n) (x ∷ xs) long at =
    let first : a + 0 ≡ a = omega arith in
    let here : x ≡ p a = at 0 (omega arith) ∙ ap p first in
    let rest = concat-is_flat_map_range p (a + 1) n xs (omega arith) (λ j lt.
    let next : a + suc j ≡ a + 1 + j = omega arith in
    at (suc j) (omega arith) ∙ ap p next) in
    (λ i. here i ++ rest i)
