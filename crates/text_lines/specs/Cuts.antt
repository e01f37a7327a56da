-- A text that is cut into its lines, or at a byte.
use Rattle.std.specs.Prelude.{ℕ, ◌==◌, if◌then◌else◌, List, [], ◌∷◌, Option, Some, None, is_some}
use Rattle.std.specs.Prelude.{position}
use Rattle.std.specs.List.{slice_split, before_first, after_first}

-- The line in the part after the last newline. An empty part is not a line.
abbrev pub last_line_if_any : List ℕ → List (List ℕ)
last_line_if_any [] = []
last_line_if_any (b ∷ part) = (b ∷ part) ∷ []

-- The lines in the parts between newlines.
abbrev pub lines_of_parts : List (List ℕ) → List (List ℕ)
lines_of_parts [] = []
lines_of_parts (part ∷ []) = last_line_if_any part
lines_of_parts (part ∷ next ∷ parts) = part ∷ lines_of_parts (next ∷ parts)

-- The lines of a text, without their newlines, which the last line may lack.
abbrev pub lines_of : List ℕ → List (List ℕ)
lines_of text = lines_of_parts (slice_split (λ b. b == 10) text)

-- The bytes before the first byte equal to `byte` and those after it, if there is such a byte.
abbrev pub cut_at : ℕ → List ℕ → Option (List ℕ × List ℕ)
cut_at byte text =
    if is_some (position (λ b. b == byte) text)
    then Some (before_first (λ b. b == byte) text, after_first (λ b. b == byte) text)
    else None
