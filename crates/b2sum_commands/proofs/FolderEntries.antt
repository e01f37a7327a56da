-- The list of a folder's entries, which is read from its front on.
use Rattle.std.proofs.Common.{◌≡◌, ℕ, ◌+◌, ◌<◌, ◌≤◌, ◌==◌, Bool, List, []}
use Rattle.std.proofs.Common.{◌∷◌, ◌++◌, length, Option, Some, None, inl, inr, refl, ap, ◌∙◌, sym}
use Rattle.std.proofs.Common.{append_assoc, append-nil, arith, length-drop}
use Rattle.std.proofs.lemmas.Bool.{lt-ltb, le-ltb, cases_lt}
use Rattle.std.proofs.lemmas.List.Splits.{slice_split_first, slice_split_none}
use Rattle.std.proofs.lemmas.List.Sums.{fails_before_first}
use Rattle.std.specs.List.{after_first, before_first, flat_map, position_or_len, slice_split}
use Rattle.text_lines.specs.Cuts.{cut_at}
use Rattle.b2sum_commands.specs.Folders.{entry_path_if, entry_paths_in_list}

-- The names are those before, and those in the list down to its rest.
abbrev pub NamesUpToRest : (ℕ → Bool) → List ℕ → List ℕ → List (List ℕ) → List ℕ → List (List ℕ)
    → Type 0
NamesUpToRest is folder list before rest names =
    names ++ entry_paths_in_list is folder rest ≡ before ++ entry_paths_in_list is folder list

abbrev is_end : ℕ → Bool
is_end b = b == 0

-- How a list is cut: after its first zero byte, or not at all.
abbrev IsCutAs : List ℕ → Option (List ℕ × List ℕ) → Type 0
IsCutAs text None = slice_split is_end text ≡ text ∷ []
IsCutAs text (Some parts) = (slice_split is_end text ≡ parts.0 ∷ slice_split is_end parts.1)
    × (length parts.1 < length text)

cut_at_zero-is_cut : (text : List ℕ) (cut : Option (List ℕ × List ℕ)) → cut ≡ cut_at 0 text
    → IsCutAs text cut
cut_at_zero-is_cut text cut is =
    let place = position_or_len is_end text in
    elim (cases_lt place (length text)) [
      | inl below ↦ rw (is ∙ found below) (
        slice_split_first is_end text 0 below,
        omega (arith, below, length-drop (position_or_len is_end text + 1) text),
      )
      | inr past ↦ rw (is ∙ none past) (slice_split_none is_end text
          (λ k d here. fails_before_first is_end text k d (omega (arith, here, past))))
    ]
  where
    found : position_or_len is_end text < length text
        → cut_at 0 text ≡ Some (before_first is_end text, after_first is_end text)
    found below = rw (lt-ltb (position_or_len is_end text) (length text) below) refl

    none : length text ≤ position_or_len is_end text → cut_at 0 text ≡ None
    none past = rw (le-ltb (position_or_len is_end text) (length text) past) refl

-- One more entry is read.
pub names_up_to_rest-next_entry : (is : ℕ → Bool) (folder list : List ℕ) (before : List (List ℕ))
    (rest entry after : List ℕ) (names more : List (List ℕ))
    → Some (entry, after) ≡ cut_at 0 rest → NamesUpToRest is folder list before rest names
    → more ≡ names ++ entry_path_if is folder entry → NamesUpToRest is folder list before after more
names_up_to_rest-next_entry is folder list before rest entry after names more cut has one =
    let parts = cut_at_zero-is_cut rest (Some (entry, after)) cut in
    ap (λ ns. ns ++ entry_paths_in_list is folder after) one
    ∙ append_assoc names (entry_path_if is folder entry) (entry_paths_in_list is folder after)
    ∙ ap (λ ns. names ++ ns) (sym (ap (flat_map (entry_path_if is folder)) parts.0))
    ∙ has

-- The rest is shorter.
pub rest_after_entry-is_shorter : (rest entry after : List ℕ) → Some (entry, after) ≡ cut_at 0 rest
    → length after < length rest
rest_after_entry-is_shorter rest entry after cut =
    (cut_at_zero-is_cut rest (Some (entry, after)) cut).1

-- The last entry is read.
pub all_names-after_last_entry : (is : ℕ → Bool) (folder list : List ℕ) (before : List (List ℕ))
    (rest : List ℕ) (names more : List (List ℕ)) → None ≡ cut_at 0 rest
    → NamesUpToRest is folder list before rest names → more ≡ names ++ entry_path_if is folder rest
    → more ≡ before ++ entry_paths_in_list is folder list
all_names-after_last_entry is folder list before rest names more cut has one =
    let whole = cut_at_zero-is_cut rest None cut in
    one ∙ ap (λ ns. names ++ ns) (sym (append-nil (entry_path_if is folder rest)))
    ∙ ap (λ ns. names ++ ns) (sym (ap (flat_map (entry_path_if is folder)) whole)) ∙ has
