-- The name of standard input.
use Rattle.std.proofs.Common.{◌≡◌, ◌∙◌, ℕ, true, List, [], ◌∷◌, sym}
use Rattle.std.proofs.lemmas.Slice.Eq.{bytes_eq-Decides}
use Rattle.b2sum_commands.specs.Messages.{is_standard_input}

-- A source with the name of standard input has the name `-`.
pub dash_name : (name named : List ℕ) → named ≡ 45 ∷ [] → is_standard_input name ≡ true → named ≡ name
dash_name name named is dash = is ∙ sym ((bytes_eq-Decides name (45 ∷ [])).0 dash)
