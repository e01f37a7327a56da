-- Lines that are checked.
use Rattle.std.proofs.Common.{◌≡◌, ◌≢◌, ℕ, Bool, true, List, [], ◌∷◌, Option, Some, None, refl, ap}
use Rattle.std.proofs.Common.{◌∙◌}
use Rattle.std.proofs.Common.{sym, subst, length, arith, Result, Ok, Err, IfOk, true≢false}
use Rattle.std.proofs.KnownBytes.{Appends-nil}
use Rattle.std.specs.Io.KnownBytes.{Appends}
use Rattle.b2sum_lines.specs.ManifestLines.{Line}
use Rattle.b2sum_commands.specs.Messages.{LineNeeds, message_if}
use Rattle.b2sum_commands.specs.World.{OnlyTells, Place, Streams, TellsText, World}
use Rattle.b2sum_commands.specs.Manifests.{has_no_message, item, next_place}
use Rattle.b2sum_commands.specs.Manifests.{VerdictLinesAreAccepted, ItemIsChecked, LineIsChecked}
use Rattle.b2sum_commands.specs.Manifests.{TellsWhyUnread, TellsVerdict, bad_line_message}
use Rattle.b2sum_commands.specs.Manifests.{warns_of_bad_lines}
use Rattle.b2sum_commands.specs.Reports.{is_malformed, is_unread}
use Rattle.b2sum_commands.specs.declared.check.Verdict.{Verdict}
use Rattle.b2sum_commands.specs.declared.check.Verdict.TheVariants.{Comment, Malformed, Unmet}
use Rattle.b2sum_commands.specs.declared.check.Verdict.TheVariants.{Unread, Equal, Different}
use Rattle.b2sum_commands.specs.declared.check.Verdict.TheVariants.{Skipped}
use Rattle.b2sum_commands.specs.declared.line_needs.Lacks.{Lacks}
use Rattle.b2sum_commands.specs.declared.options.Options.{Options}

pub no_bytes : (xs : List ℕ) → length xs ≡ 0 → xs ≡ []
no_bytes [] h = refl
no_bytes (x ∷ xs) h = absurd (omega (arith, h))

unread_message-at_any_place : (w : World) (o : Options) (i : Result Line Verdict)
    (old new : Streams) (place : Place)
    → TellsWhyUnread w o i (record old { place = place }) new → TellsWhyUnread w o i old new
unread_message-at_any_place w o (Err verdict) old new place told = told
unread_message-at_any_place w o (Ok e) old new place told = told

-- A line that is no comment is checked, after the place has passed it.
pub line_check-of_no_comment : (w : World) (o : Options) (input : Bool) (line : List ℕ)
    (old mid new : Streams)
    (i : Result Line Verdict) (v : Verdict) → item o input old.place.spacing line ≡ Some i
    → mid ≡ record old { place = next_place old.place (Some i) } → new.place ≡ mid.place
    → VerdictLinesAreAccepted Appends w o i mid new v → TellsVerdict w o line i mid new v
    → LineIsChecked w o input line old new v
line_check-of_no_comment w o input line old mid new i v is at same verdict told =
    let placed : TellsVerdict w o line i (record old { place = next_place old.place (Some i) }) new v =
    subst (λ (s : Streams). TellsVerdict w o line i s new v) at told in
    subst (λ (x : Option (Result Line Verdict)). ItemIsChecked w o line x old new v) (sym is) (
      same ∙ ap (λ (s : Streams). s.place) at,
      subst (λ (s : Streams). VerdictLinesAreAccepted Appends w o i s new v) at verdict,
      (
        λ bad. unread_message-at_any_place w o i old new (next_place old.place (Some i))
            (placed.0 bad),
        placed.1,
        placed.2,
        placed.3,
      ),
    )

-- A comment.
pub line_check-of_comment : (w : World) (o : Options) (input : Bool) (line : List ℕ)
    (old mid : Streams)
    → item o input old.place.spacing line ≡ None
    → mid ≡ record old { place = next_place old.place None }
    → LineIsChecked w o input line old mid Comment
line_check-of_comment w o input line old mid is at =
    subst (λ (x : Option (Result Line Verdict)). ItemIsChecked w o line x old mid Comment) (sym is)
    (refl, at)

-- A line that is not properly formatted.
pub line_check-of_malformed_line : (w : World) (o : Options) (input : Bool) (line : List ℕ)
    (old mid new : Streams) → item o input old.place.spacing line ≡ Some (Err Malformed)
    → mid ≡ record old { place = next_place old.place (Some (Err Malformed)) } → OnlyTells mid new
    → TellsText mid new (message_if (warns_of_bad_lines o.report) w.program
    (bad_line_message o mid.place.name mid.place.number line))
    → LineIsChecked w o input line old new Malformed
line_check-of_malformed_line w o input line old mid new is at last told =
    let same : new.place ≡ mid.place = ap (λ (s : Streams). s.place) last in
    line_check-of_no_comment w o input line old mid new (Err Malformed) Malformed is at same (
      [],
      (refl, ap (λ (s : Streams). s.left) last),
      subst (λ (h : Option (List ℕ)). Appends mid.held h []) (sym (ap (λ (s : Streams). s.held) last))
          (Appends-nil mid.held),
    ) (
      λ bad. absurd (true≢false (sym (ap is_unread bad))),
      λ _. subst
          (λ (p : Place). TellsText mid new (message_if (warns_of_bad_lines o.report) w.program
          (bad_line_message o p.name p.number line))) (sym same) told,
      λ lacks bad. absurd (true≢false (ap is_malformed bad)),
      λ quiet. absurd (true≢false (sym quiet)),
    )

same_lacks : {a b : Lacks} → Unmet a ≡ Unmet b → a ≡ b
same_lacks {a} {b} is = ap (λ v. lacks_in a v) is
  where
    lacks_in : Lacks → Verdict → Lacks
    lacks_in other Equal = other
    lacks_in other Different = other
    lacks_in other Unread = other
    lacks_in other Skipped = other
    lacks_in other Malformed = other
    lacks_in other (Unmet lacks) = lacks
    lacks_in other Comment = other

-- A line that needs other options.
pub line_check-of_unmet_line : (w : World) (o : Options) (input : Bool) (line : List ℕ)
    (old mid new : Streams)
    (lacks : Lacks) → item o input old.place.spacing line ≡ Some (Err (Unmet lacks))
    → mid ≡ record old { place = next_place old.place (Some (Err (Unmet lacks))) }
    → OnlyTells mid new → TellsText mid new (message_if (warns_of_bad_lines o.report) w.program
    (LineNeeds mid.place.name mid.place.number lacks))
    → LineIsChecked w o input line old new (Unmet lacks)
line_check-of_unmet_line w o input line old mid new lacks is at last told =
    let same : new.place ≡ mid.place = ap (λ (s : Streams). s.place) last in
    line_check-of_no_comment w o input line old mid new (Err (Unmet lacks)) (Unmet lacks) is at same (
      [],
      (refl, ap (λ (s : Streams). s.left) last),
      subst (λ (h : Option (List ℕ)). Appends mid.held h []) (sym (ap (λ (s : Streams). s.held) last))
          (Appends-nil mid.held),
    ) (
      λ bad. absurd (true≢false (sym (ap is_unread bad))),
      λ bad. absurd (true≢false (sym (ap is_malformed bad))),
      λ others bad. subst (λ (l : Lacks). TellsText mid new
          (message_if (warns_of_bad_lines o.report) w.program
          (LineNeeds new.place.name new.place.number l))) (same_lacks bad)
          (subst (λ (p : Place). TellsText mid new
          (message_if (warns_of_bad_lines o.report) w.program
          (LineNeeds p.name p.number lacks))) (sym same) told),
      λ quiet. absurd (true≢false (sym quiet)),
    )

silent-not_unread : (v : Verdict) → has_no_message v ≡ true → v ≢ Unread
silent-not_unread v silent is = true≢false (sym silent ∙ ap has_no_message is)

-- The line of an entry is checked.
pub entry_line : {E : Type 0} (w : World) (o : Options) (input : Bool) (line : List ℕ)
    (old mid new : Streams) (e : Line) (r : Result Verdict E)
    → item o input old.place.spacing line ≡ Some (Ok e)
    → mid ≡ record old { place = next_place old.place (Some (Ok e)) } → new.place ≡ mid.place
    → IfOk r (VerdictLinesAreAccepted Appends w o (Ok e) mid new)
    → IfOk r (λ v. v ≡ Unread → TellsWhyUnread w o (Ok e) mid new)
    → IfOk r (λ v. v ≢ Unread → new.told ≡ mid.told) → IfOk r (LineIsChecked w o input line old new)
entry_line w o input line old mid new e (Ok v) is at same verdict told silent =
    line_check-of_no_comment w o input line old mid new (Ok e) v is at same verdict (
      told,
      λ bad. absurd ((subst (VerdictLinesAreAccepted Appends w o (Ok e) mid new) bad verdict).1),
      λ lacks bad. absurd
          ((subst (VerdictLinesAreAccepted Appends w o (Ok e) mid new) bad verdict).1),
      λ quiet. silent (silent-not_unread v quiet),
    )
entry_line w o input line old mid new e (Err error) is at same verdict told silent = tt
