-- Lists over a range of numbers that are joined.
use Rattle.std.proofs.Common.{◌≡◌, ℕ, zero, suc, ◌+◌, ◌*◌, ◌<◌, List, length, take}
use Rattle.std.proofs.Common.{drop, refl, sym, ap, ◌∙◌, arith}
use Rattle.std.proofs.Common.{length-append}
use Rattle.std.proofs.lemmas.List.{take_at, drop_at}
use Rattle.std.specs.List.{flat_map, range_with_len}

-- The length of the joined lists.
pub length-flat_map-range : {A : Type 0} (f : ℕ → List A) (k : ℕ) → ((i : ℕ) → length (f i) ≡ k)
    → (a n : ℕ) → length (flat_map f (range_with_len a n)) ≡ n * k
length-flat_map-range f k len a zero = omega arith
length-flat_map-range f k len a (suc n) =
    omega (
      arith,
      length-append (f a) (flat_map f (range_with_len (a + 1) n)),
      len a,
      length-flat_map-range f k len (a + 1) n,
    )

-- If the joined lists are equal, so is each list.
pub flat_map-range_is_injective : {A : Type 0} (f g : ℕ → List A) (k : ℕ)
    → ((i : ℕ) → length (f i) ≡ k)
    → ((i : ℕ) → length (g i) ≡ k) → (a n i : ℕ) → i < n
    → flat_map f (range_with_len a n) ≡ flat_map g (range_with_len a n) → f (a + i) ≡ g (a + i)
flat_map-range_is_injective f g k len_f len_g a zero i below same = absurd (omega arith)
flat_map-range_is_injective f g k len_f len_g a (suc n) zero below same =
    let at : a + 0 ≡ a = omega arith in
    rw at (sym (take_at (f a) _ k (len_f a)) ∙ ap (take k) same ∙ take_at (g a) _ k (len_g a))
flat_map-range_is_injective f g k len_f len_g a (suc n) (suc i) below same =
    let at : a + suc i ≡ a + 1 + i = omega arith in
    rw at (flat_map-range_is_injective f g k len_f len_g (a + 1) n i (omega arith)
    (sym (drop_at (f a) _ k (len_f a)) ∙ ap (drop k) same ∙ drop_at (g a) _ k (len_g a)))

-- A list over a range that begins one later.
pub flat_map-range_shifted_by_one : {A : Type 0} (f g : ℕ → List A) → ((i : ℕ) → f (i + 1) ≡ g i)
    → (a n : ℕ)
    → flat_map f (range_with_len (a + 1) n) ≡ flat_map g (range_with_len a n)
flat_map-range_shifted_by_one f g e a zero = refl
flat_map-range_shifted_by_one f g e a (suc n) =
    rw (e a, flat_map-range_shifted_by_one f g e (a + 1) n) refl
