-- Steps of loops over the bytes of a text.
use Rattle.std.proofs.Common.{◌≡◌, ℕ, ◌+◌, ◌<◌, ◌==◌, true, List, [], ◌∷◌, ◌++◌, length}
use Rattle.std.proofs.Common.{take, drop, get_or, Some, None, refl, sym, ap, ◌∙◌, add-one}
use Rattle.std.proofs.Common.{drop-cons}
use Rattle.std.proofs.lemmas.List.{take-append-drop}
use Rattle.b2sum_lines.specs.ManifestLines.{split_at_last}

-- The rest of a text from an index is the byte there and the rest after it.
pub drop-is_byte_and_rest : (text : List ℕ) (i : ℕ) → i < length text
    → drop i text ≡ get_or text i 0 ∷ drop (i + 1) text
drop-is_byte_and_rest text i below = rw (add-one) (drop-cons text i 0 below)

-- A text is cut at a byte with none like it behind.
pub split_at_last-of_append : (byte : ℕ) (front rest : List ℕ) → (byte == byte) ≡ true
    → split_at_last byte rest ≡ None
    → split_at_last byte (front ++ (byte ∷ rest)) ≡ Some (front, rest)
split_at_last-of_append byte [] rest same none = rw (none, same) refl
split_at_last-of_append byte (b ∷ front) rest same none = rw
    (split_at_last-of_append byte front rest same none) refl

pub split_at_last-at_index : (byte : ℕ) (text : List ℕ) (i : ℕ) → i < length text
    → get_or text i 0 ≡ byte → (byte == byte) ≡ true → split_at_last byte (drop (i + 1) text) ≡ None
    → split_at_last byte text ≡ Some (take i text, drop (i + 1) text)
split_at_last-at_index byte text i below is same none =
    ap (split_at_last byte) (sym (take-append-drop i text)
    ∙ ap (λ xs. take i text ++ xs) (drop-is_byte_and_rest text i below
    ∙ ap (λ b. b ∷ drop (i + 1) text) is))
    ∙ split_at_last-of_append byte (take i text) (drop (i + 1) text) same none
