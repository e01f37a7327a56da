-- Lines that are cut off from what is read.
use Rattle.std.proofs.Common.{◌≡◌, ℕ, ◌+◌, ◌-◌, ◌≤◌, ◌<◌, ◌==◌, Bool, false, List, [], ◌∷◌, ◌++◌}
use Rattle.std.proofs.Common.{Option, Some, None, Bor, ap, ◌∙◌, sym, subst, length, take, drop}
use Rattle.std.proofs.Common.{inl, inr, arith, eqb-true, append_assoc, length-append}
use Rattle.std.proofs.lemmas.Bool.{cases_lt, lt-ltb, le-ltb}
use Rattle.std.proofs.lemmas.List.{take-append-drop, drop-take, get_or-take, length-take}
use Rattle.std.proofs.lemmas.List.Elements.{All-from_get_or, All-append}
use Rattle.std.proofs.lemmas.List.Sums.{fails_before_first, split_at_first, passes_at_first}
use Rattle.std.proofs.Math.Seq.{drop-append_seam}
use Rattle.std.specs.List.{position_or_len, before_first, after_first}
use Rattle.std.specs.Option.{option_map}
use Rattle.text_lines.specs.Cuts.{cut_at}
use Rattle.b2sum_commands.specs.LineReads.{HasNoNewline}

-- What a cut at the first newline says of a text.
abbrev IsCutAtNewline : List ℕ → Option (List ℕ × List ℕ) → Type 0
IsCutAtNewline text None = HasNoNewline text
IsCutAtNewline text (Some parts) = HasNoNewline parts.0 × (text ≡ parts.0 ++ (10 ∷ parts.1))

abbrev newline : ℕ → Bool
newline b = b == 10

one_line : (text : List ℕ) (n : ℕ) → length text ≤ n → n ≤ position_or_len newline text
    → HasNoNewline text
one_line text n fits far = All-from_get_or (λ b. newline b ≡ false) text 0
    (λ i below. fails_before_first newline text i 0 (omega (arith, fits, far, below)))

before_one_line : (text : List ℕ) → position_or_len newline text < length text
    → HasNoNewline (before_first newline text)
before_one_line text below = All-from_get_or (λ b. newline b ≡ false) (before_first newline text) 0
    (λ i less. let first : i < position_or_len newline text =
    omega (arith, less, length-take (position_or_len newline text) text) in
    ap newline (get_or-take (position_or_len newline text) text i 0 first)
    ∙ fails_before_first newline text i 0 first)

cut_at_newline-is_cut : (text : List ℕ) → IsCutAtNewline text (cut_at 10 text)
cut_at_newline-is_cut text = elim (cases_lt (position_or_len newline text) (length text)) [
  | inl below ↦ rw (lt-ltb (position_or_len newline text) (length text) below) (
    before_one_line text below,
    split_at_first newline text 0 below
        ∙ ap (λ b. before_first newline text ++ (b ∷ after_first newline text))
        (eqb-true _ _ (passes_at_first newline text 0 below)),
  )
  | inr past ↦ rw (le-ltb (position_or_len newline text) (length text) past)
      (one_line text (length text) (omega arith) past)
]

-- A slice that is cut at the first newline.
pub slice_cut_at_newline : (text : List ℕ) (found : Option (Bor (List ℕ) × Bor (List ℕ)))
    (parts : Bor (List ℕ) × Bor (List ℕ)) → found ≡ Some parts
    → option_map (λ (x : Bor (List ℕ) × Bor (List ℕ)). (x.0.now, x.1.now)) found ≡ cut_at 10 text
    → HasNoNewline parts.0.now × (text ≡ parts.0.now ++ (10 ∷ parts.1.now))
slice_cut_at_newline text found parts is cut = subst (IsCutAtNewline text)
    (sym cut ∙ ap (option_map (λ (x : Bor (List ℕ) × Bor (List ℕ)). (x.0.now, x.1.now))) is)
    (cut_at_newline-is_cut text)

-- A slice without a newline.
pub slice-without_newline : (text : List ℕ) (found : Option (Bor (List ℕ) × Bor (List ℕ))) → found
    ≡ None
    → option_map (λ (x : Bor (List ℕ) × Bor (List ℕ)). (x.0.now, x.1.now)) found ≡ cut_at 10 text
    → HasNoNewline text
slice-without_newline text found is cut = subst (IsCutAtNewline text)
    (sym cut ∙ ap (option_map (λ (x : Bor (List ℕ) × Bor (List ℕ)). (x.0.now, x.1.now))) is)
    (cut_at_newline-is_cut text)

-- A line goes on.
pub no_newline-append : (line part new : List ℕ) → new ≡ line ++ part → HasNoNewline line
    → HasNoNewline part → HasNoNewline new
no_newline-append line part new is one more =
    subst HasNoNewline (sym is) (All-append (λ b. newline b ≡ false) line part one more)

-- A slice of a list is what is left of its front.
pub slice-is_drop_of_take : (xs : List ℕ) (start end : ℕ) → start ≤ end
    → take (end - start) (drop start xs) ≡ drop start (take end xs)
slice-is_drop_of_take xs start end order =
    sym (drop-take start (end - start) xs)
    ∙ ap (λ n. drop start (take n xs)) (omega (arith, order))

-- What is unread after a line.
pub unread-after_line : (piece part after : List ℕ) (start end : ℕ) → end ≤ length piece
    → drop start (take end piece) ≡ part ++ (10 ∷ after)
    → (length after ≤ end) × (drop (end - length after) (take end piece) ≡ after)
unread-after_line piece part after start end bound cut =
    let read : List ℕ = take end piece in
    let front : List ℕ = take start read ++ (part ++ (10 ∷ [])) in
    let whole : read ≡ front ++ after =
    sym (take-append-drop start read) ∙ ap (λ xs. take start read ++ xs)
    (cut ∙ sym (append_assoc part (10 ∷ []) after))
    ∙ sym (append_assoc (take start read) (part ++ (10 ∷ [])) after) in
    let sum : length read ≡ length front + length after =
    ap length whole ∙ length-append front after in
    let size : length read ≡ end = omega (arith, length-take end piece, bound) in
    let at : end - length after ≡ length front = omega (arith, size, sum) in (
      omega (arith, size, sum),
      ap (λ n. drop n read) at ∙ ap (λ xs. drop (length front) xs) whole
          ∙ drop-append_seam front after,
    )

-- A line with all that is unread, in which there is no newline.
pub line_append_unread-no_newline : (old more line self unread slice new : List ℕ) → old ++ more
    ≡ line ++ self
    → unread ≡ self → slice ≡ unread → new ≡ line ++ slice → HasNoNewline line → HasNoNewline unread
    → HasNoNewline new × (old ++ more ≡ new)
line_append_unread-no_newline old more line self unread slice new passed view is grown one all = (
  no_newline-append line slice new grown one (subst HasNoNewline (sym is) all),
  passed ∙ ap (λ xs. line ++ xs) (sym view ∙ sym is) ∙ sym grown,
)
