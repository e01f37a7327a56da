use Rattle.std.proofs.Common.{◌≡◌, ℕ, ◌+◌, ◌<◌, ◌∙◌, ap, refl, Bool, true, false, List, ◌++◌}
use Rattle.std.proofs.Common.{length}
use Rattle.std.proofs.Common.{append-nil, arith, inl, inr}
use Rattle.std.specs.Prelude.{Option, Some, None, IfSome, Ok}
use Rattle.blake2_streams.specs.Streams.{ReturnsAllBytes}
use Rattle.b2sum.specs.RefusedTexts.{IsTooLong}
use Rattle.b2sum.proofs.hashes.digest.Goals as goal

-- A whole text that fits is not too long.
whole_text-not_too_long : (old new : Option (List ℕ)) (text : List ℕ) (failed : Bool) (accepted : Type 0)
    (counted limit : ℕ) → ReturnsAllBytes old new text → counted + length text < limit
    → ((accepted → ⊥) → ⊥)
    → IfSome old (IsTooLong {A = Unit {0}} (Ok (tt {0})) failed accepted counted limit)
whole_text-not_too_long None new text failed accepted counted limit all fits ok = tt
whole_text-not_too_long (Some bytes) None text failed accepted counted limit all fits ok = absurd
    all.given
whole_text-not_too_long (Some bytes) (Some rest) text failed accepted counted limit all fits ok =
    let is : bytes ≡ text =
    all.given ∙ ap (λ (r : List ℕ). text ++ r) all.at_end ∙ append-nil text in
    let long : length bytes ≡ length text = ap length is in (
      λ e. absurd cc,
      λ p. elim p.1 [
        | inl refused ↦ absurd (ok refused)
        | inr reached ↦ absurd (omega (arith, reached, fits, long))
      ],
    )

pub returns-clause-too_long : goal.returns-clause-too_long
returns-clause-too_long g c =
    let all = c.if-not-absorb_source.ensures.whole refl in
    whole_text-not_too_long _ _ all.0 _ _ _ _ all.1
    (omega (arith, all.2, c.if-not-init_state.ensures.count refl))
    (λ no. let bad : true ≡ false = c.if-not-init_state.ensures.refused.1 no in cc)
