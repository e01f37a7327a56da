-- The last part of a text.
use Rattle.std.proofs.Common.{◌≡◌, ℕ, ◌+◌, ◌-◌, ◌<◌, ◌≤◌, ◌==◌, Bool, true, false, ◌||◌, List, []}
use Rattle.std.proofs.Common.{◌∷◌}
use Rattle.std.proofs.Common.{◌++◌, refl, ap, ◌∙◌, sym, subst, length, drop, take, get_or, arith}
use Rattle.std.proofs.Common.{add-one, drop-cons, length-drop, eq-eqb}
use Rattle.std.proofs.lemmas.List.{take-append-drop, take_all}
use Rattle.std.specs.List.{list_any}
use Rattle.b2sum_commands.specs.TextParts.{after_last}

or_true : (b : Bool) → (b || true) ≡ true
or_true true = refl
or_true false = refl

has_byte : (byte : ℕ) (front rest : List ℕ)
    → list_any (λ c. c == byte) (front ++ (byte ∷ rest)) ≡ true
has_byte byte [] rest = rw (eq-eqb byte byte refl) refl
has_byte byte (b ∷ front) rest = rw (has_byte byte front rest) (or_true (b == byte))

after_last-without_byte : (byte : ℕ) (text : List ℕ) → list_any (λ c. c == byte) text ≡ false
    → after_last byte text ≡ text
after_last-without_byte byte [] none = refl
after_last-without_byte byte (b ∷ text) none = rw none refl

after_last-of_append : (byte : ℕ) (front rest : List ℕ) → list_any (λ c. c == byte) rest ≡ false
    → after_last byte (front ++ (byte ∷ rest)) ≡ rest
after_last-of_append byte [] rest none = rw (has_byte byte [] rest)
    (after_last-without_byte byte rest none)
after_last-of_append byte (b ∷ front) rest none =
    rw (has_byte byte (b ∷ front) rest) (after_last-of_append byte front rest none)

text-split_at_byte : (byte : ℕ) (text : List ℕ) (i : ℕ) → i < length text → get_or text i 0 ≡ byte
    → text ≡ take i text ++ (byte ∷ drop (i + 1) text)
text-split_at_byte byte text i below is =
    sym (take-append-drop i text) ∙ ap (λ rest. take i text ++ rest)
    (rw (add-one) (drop-cons text i 0 below) ∙ ap (λ b. b ∷ drop (i + 1) text) is)

slice_to_end-is_drop : (text : List ℕ) (at : ℕ) → take (length text - at) (drop at text)
    ≡ drop at text
slice_to_end-is_drop text at =
    take_all (length text - at) (drop at text) (omega (arith, length-drop at text))

-- What is after the last such byte.
pub slice-is_after_last_byte : (byte : ℕ) (text : List ℕ) (at : ℕ) → 0 < at → at ≤ length text
    → get_or text (at - 1) 0 ≡ byte → list_any (λ c. c == byte) (drop at text) ≡ false
    → take (length text - at) (drop at text) ≡ after_last byte text
slice-is_after_last_byte byte text at some fits is none =
    let next : at - 1 + 1 ≡ at = omega (arith, some) in
    let parts : text ≡ take (at - 1) text ++ (byte ∷ drop at text) =
    subst (λ n. text ≡ take (at - 1) text ++ (byte ∷ drop n text)) next
    (text-split_at_byte byte text (at - 1) (omega (arith, some, fits)) is) in
    slice_to_end-is_drop text at
    ∙ sym (ap (after_last byte) parts
    ∙ after_last-of_append byte (take (at - 1) text) (drop at text) none)

-- A text without such a byte is all after it.
pub slice-is_whole_without_byte : (byte : ℕ) (text : List ℕ) (at : ℕ) → at ≤ 0
    → list_any (λ c. c == byte) (drop at text) ≡ false
    → take (length text - at) (drop at text) ≡ after_last byte text
slice-is_whole_without_byte byte text at start none =
    let zero : at ≡ 0 = omega (arith, start) in
    slice_to_end-is_drop text at ∙ ap (λ n. drop n text) zero
    ∙ sym (after_last-without_byte byte text
    (subst (λ n. list_any (λ c. c == byte) (drop n text) ≡ false) zero none))
