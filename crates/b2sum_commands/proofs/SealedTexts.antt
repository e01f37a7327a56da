-- Texts whose last line seals what is above it.
use Rattle.std.proofs.Common.{◌≡◌, ◌↔◌, ℕ, ◌≤◌, List, ◌++◌, ap, ◌∙◌, sym, length, drop, take}
use Rattle.std.proofs.lemmas.List.{take-append-drop, length-take-le}
use Rattle.std.proofs.Math.Seq.{drop-append_seam}

-- A text is two parts exactly if what comes after the first is the second.
pub suffix_equal-iff_append : (text above seal : List ℕ) (n : ℕ) → above ≡ take n text
    → n ≤ length text
    → (drop (length above) text ≡ seal) ↔ (text ≡ above ++ seal)
suffix_equal-iff_append text above seal n is fits = (
  λ last.
      sym (take-append-drop n text) ∙ ap (λ xs. xs ++ drop n text) (sym is)
      ∙ ap (λ m. above ++ drop m text) (sym (ap length is ∙ length-take-le n text fits))
      ∙ ap (λ xs. above ++ xs) last,
  λ whole. ap (λ xs. drop (length above) xs) whole ∙ drop-append_seam above seal,
)
