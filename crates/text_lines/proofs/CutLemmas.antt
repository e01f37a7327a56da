-- Lists that are cut at a byte, and texts that are cut into lines.
use Rattle.std.proofs.Common.{◌≡◌, ℕ, ◌+◌, ◌<◌, ◌≤◌, ◌==◌, Bool, true, false, not, nat_lt, List, []}
use Rattle.std.proofs.Common.{◌∷◌, length, take, drop, Option, Some, None, Bor, inl, inr, refl, ap}
use Rattle.std.proofs.Common.{◌∙◌, arith}
use Rattle.std.proofs.lemmas.Bool.{lt-ltb, le-ltb, cases_lt}
use Rattle.std.proofs.lemmas.List.Sums.{prefix_len-le-length}
use Rattle.std.proofs.lemmas.List.Splits.{length-slice_split, slice_split-cons_no}
use Rattle.std.proofs.lemmas.List.Splits.{slice_split_first}
use Rattle.std.specs.List.{after_first, before_first, onto_first, position_or_len, slice_split}
use Rattle.std.specs.Option.{option_map, unwrap_or}
use Rattle.text_lines.specs.Cuts.{cut_at, lines_of, lines_of_parts}

-- A list in which the byte is first at this index is cut there.
pub cut_at-first_index : (byte : ℕ) (text : List ℕ) (i : ℕ)
    → position_or_len (λ (b : ℕ). b == byte) text ≡ i
    → i < length text
    → cut_at byte text ≡ Some (take i text, drop (i + 1) text)
cut_at-first_index byte text i found below =
    let test : nat_lt i (length text) ≡ true = lt-ltb i (length text) below in
    rw (found, test) refl

-- A list without the byte is not cut.
pub cut_at-no_byte : (byte : ℕ) (text : List ℕ) → position_or_len (λ (b : ℕ). b == byte) text
    ≡ length text → cut_at byte text ≡ None
cut_at-no_byte byte text none =
    let test : nat_lt (length text) (length text) ≡ false =
    le-ltb (length text) (length text) (omega arith) in
    rw (none, test) refl

-- A list is its only part if none of its elements passes the test.
slice_split-single_part : {X : Type 0} (p : X → Bool) (xs : List X)
    → length xs ≤ position_or_len p xs
    → slice_split p xs ≡ xs ∷ []
slice_split-single_part p [] h = refl
slice_split-single_part p (x ∷ xs) h = go (p x) refl (λ rest. slice_split-single_part p xs rest)
  where
    go : (b : Bool) → p x ≡ b → (length xs ≤ position_or_len p xs → slice_split p xs ≡ xs ∷ [])
        → slice_split p (x ∷ xs) ≡ (x ∷ xs) ∷ []
    go true passes again = let none : length (x ∷ xs) ≤ 0 = rw passes at h in
        absurd (omega (arith, none))
    go false fails again =
        let rest : length (x ∷ xs) ≤ 1 + position_or_len p xs = rw fails at h in
        slice_split-cons_no p x xs fails ∙ ap (onto_first x) (again (omega (arith, rest)))

-- A part before another is a line.
lines_of_parts-cons : (part : List ℕ) (parts : List (List ℕ)) → 0 < length parts
    → lines_of_parts (part ∷ parts) ≡ part ∷ lines_of_parts parts
lines_of_parts-cons part [] some = absurd (omega (arith, some))
lines_of_parts-cons part (next ∷ parts) some = refl

-- A last part that is not empty is a line.
lines_of_parts-last : (part : List ℕ) → 0 < length part → lines_of_parts (part ∷ []) ≡ part ∷ []
lines_of_parts-last [] some = absurd (omega (arith, some))
lines_of_parts-last (b ∷ part) some = refl

-- The first line of a text that is not empty is what comes before the first newline. The other
-- lines are those of the rest.
lines_of-first_line : (text : List ℕ) (cut : Option (List ℕ × List ℕ)) → cut ≡ cut_at 10 text
    → 0 < length text
    → lines_of text ≡ (unwrap_or cut (text, [])).0 ∷ lines_of (unwrap_or cut (text, [])).1
lines_of-first_line text cut is some =
    let place = position_or_len (λ (b : ℕ). b == 10) text in
    elim (cases_lt place (length text)) [
      | inl below ↦ rw (is ∙ cut_at-first_index 10 text place refl below) (
          ap lines_of_parts (slice_split_first (λ (b : ℕ). b == 10) text 0 below)
          ∙ lines_of_parts-cons (before_first (λ (b : ℕ). b == 10) text)
          (slice_split (λ (b : ℕ). b == 10) (after_first (λ (b : ℕ). b == 10) text))
          (omega (
            arith,
            length-slice_split (λ (b : ℕ). b == 10)
                (after_first (λ (b : ℕ). b == 10) text),
          ))
          )
      | inr past ↦
          let none : place ≡ length text = omega (
            arith,
            past,
            prefix_len-le-length (λ (b : ℕ). not (b == 10)) text,
          ) in
          rw (is ∙ cut_at-no_byte 10 text none) (ap lines_of_parts
          (slice_split-single_part (λ (b : ℕ). b == 10) text past) ∙ lines_of_parts-last text some)
    ]

-- The same holds for slices.
pub lines_of-first_slice : (text : List ℕ) (cut : Option (Bor (List ℕ) × Bor (List ℕ)))
    (whole parts : Bor (List ℕ) × Bor (List ℕ)) → 0 < length text
    → option_map (λ (x : Bor (List ℕ) × Bor (List ℕ)). (x.0.now, x.1.now)) cut ≡ cut_at 10 text
    → parts ≡ unwrap_or cut whole → whole.0.now ≡ text → whole.1.now ≡ []
    → lines_of text ≡ parts.0.now ∷ lines_of parts.1.now
lines_of-first_slice text None whole parts some is from all nothing =
    rw (from, all, nothing) (lines_of-first_line text None is some)
lines_of-first_slice text (Some found) whole parts some is from all nothing =
    rw from (lines_of-first_line text (Some (found.0.now, found.1.now)) is some)
