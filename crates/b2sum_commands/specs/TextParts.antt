-- Parts of a text at its end.
use Rattle.std.specs.Prelude.{ℕ, ◌==◌, ◌-◌, if◌then◌else◌, List, [], ◌∷◌, length, take}
use Rattle.std.specs.List.{list_any}

-- What is after the last such byte of a text, or all of it if there is none.
abbrev pub after_last : ℕ → List ℕ → List ℕ
after_last byte [] = []
after_last byte (b ∷ text) =
    if list_any (λ c. c == byte) (b ∷ text) then after_last byte text else b ∷ text

-- The last line of a text that ends with a newline, without that.
abbrev pub final_line : List ℕ → List ℕ
final_line text = after_last 10 (take (length text - 1) text)

-- What is above the last line of a text.
abbrev pub above_last_line : List ℕ → List ℕ
above_last_line text = take (length text - 1 - length (final_line text)) text
