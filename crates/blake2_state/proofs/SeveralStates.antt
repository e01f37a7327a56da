-- States that absorb their inputs one after another, and those before and after them.
use Rattle.std.proofs.Common.{◌≡◌, ℕ, ◌+◌, ◌<◌, ◌≤◌, ◌⊎◌, inl, inr, List, length, slice_index_or}
use Rattle.std.proofs.Common.{slice_set, below_more, refl, sym, subst, ◌∙◌, arith}
use Rattle.std.proofs.lemmas.Bool.{cases_order}
use Rattle.std.proofs.lemmas.List.{get_or-set_other, get_or-set_same, length-set}
use Rattle.blake2_state.specs.SeveralStates.{AreUpdated}

-- No state yet.
pub AreUpdated-empty_range : {S : Type 0} (A : S → List ℕ → S → Type 0) (d : S) (old : List S)
    (input : ℕ → List ℕ) (a : ℕ) → AreUpdated A d old input old a a
AreUpdated-empty_range A d old input a = record {
  as_many = refl;
  updated = λ j least most. absurd (omega (arith, least, most));
  before = λ j low. refl;
  after = λ j high. refl;
}

-- One more, which is put in its place.
pub AreUpdated-set_next_state : {S : Type 0} (A : S → List ℕ → S → Type 0) (d : S)
    (old new : List S)
    (input : ℕ → List ℕ) (a j : ℕ) (s : S) → AreUpdated A d old input new a j → a ≤ j
    → j < length new → A (slice_index_or old j d) (input j) s
    → AreUpdated A d old input (slice_set new j s) a (j + 1)
AreUpdated-set_next_state A d old new input a j s first order within here =
    let Is : ℕ → Type 0 = λ k. a ≤ k
    → A (slice_index_or old k d) (input k) (slice_index_or (slice_set new j s) k d) in
    let each = below_more Is j
    (λ k low least. subst (A (slice_index_or old k d) (input k))
    (sym (get_or-set_other new j k s d (λ e. absurd (omega (arith, e, low)))))
    (first.updated k least low))
    (λ least. subst (A (slice_index_or old j d) (input j))
    (sym (get_or-set_same new j s d within)) here) in
    record {
      as_many = length-set new j s ∙ first.as_many;
      updated = λ k least most. each k most least;
      before = λ k low. get_or-set_other new j k s d (λ e. absurd (omega (arith, e, low, order)))
          ∙ first.before k low;
      after = λ k high. get_or-set_other new j k s d (λ e. absurd (omega (arith, e, high)))
          ∙ first.after k (omega (arith, high));
    }

-- Those to before number b, and then those to before number c.
pub AreUpdated-joined_ranges : {S : Type 0} (A : S → List ℕ → S → Type 0) (d : S)
    (old mid new : List S)
    (input : ℕ → List ℕ) (a b c : ℕ) → a ≤ b → b ≤ c → AreUpdated A d old input mid a b
    → AreUpdated A d mid input new b c → AreUpdated A d old input new a c
AreUpdated-joined_ranges A d old mid new input a b c ab bc first second =
    let low : (j : ℕ) → a ≤ j → j < b
    → A (slice_index_or old j d) (input j) (slice_index_or new j d) =
    λ j least lt. subst (A (slice_index_or old j d) (input j)) (sym (second.before j lt))
    (first.updated j least lt) in
    let high : (j : ℕ) → b ≤ j → j < c
    → A (slice_index_or old j d) (input j) (slice_index_or new j d) =
    λ j least lt. subst (λ s. A s (input j) (slice_index_or new j d)) (first.after j least)
    (second.updated j least lt) in
    let place : (j : ℕ) → a ≤ j → j < c → (j ≡ b) ⊎ ((j < b) ⊎ (b < j))
    → A (slice_index_or old j d) (input j) (slice_index_or new j d) =
    λ j least lt cases. elim cases [
      | inl e ↦ high j (omega (arith, e)) lt
      | inr (inl below) ↦ low j least below
      | inr (inr above) ↦ high j (omega (arith, above)) lt
    ] in
    record {
      as_many = second.as_many ∙ first.as_many;
      updated = λ j least lt. place j least lt (cases_order j b);
      before = λ j lt. second.before j (omega (arith, lt, ab)) ∙ first.before j lt;
      after = λ j le. second.after j le ∙ first.after j (omega (arith, le, bc));
    }
