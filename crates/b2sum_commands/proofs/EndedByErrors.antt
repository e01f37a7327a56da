-- Sums, verdicts and checks of manifests that an error ends.
use Rattle.std.proofs.Common.{◌≡◌, ◌⊎◌, ℕ, ◌<◌, ◌==◌, Bool, true, false, List, [], ◌∷◌, ◌++◌}
use Rattle.std.proofs.Common.{Option, Some, None, inl, inr, refl, ap, ◌∙◌, sym, subst, length}
use Rattle.std.proofs.Common.{arith}
use Rattle.std.proofs.Common.{append_assoc, append-nil, Result, Ok, Err, OnErr, IsErrAnd, IfSome}
use Rattle.std.specs.Result.{result_ok}
use Rattle.std.proofs.KnownBytes.{Consumes-nil, Consumes-trans}
use Rattle.std.specs.Io.KnownBytes.{Consumes, IsAtEnd}
use Rattle.text_lines.specs.Cuts.{lines_of, last_line_if_any}
use Rattle.b2sum_lines.specs.ManifestLines.{Line}
use Rattle.b2sum_commands.specs.declared.check.Counts.{Counts}
use Rattle.b2sum_commands.specs.declared.check.Verdict.{Verdict}
use Rattle.b2sum_commands.specs.declared.line_reader.LineEnd.{LineEnd}
use Rattle.b2sum_commands.specs.declared.line_reader.LineEnd.TheVariants.{Newline, Last, Failure}
use Rattle.b2sum_commands.specs.declared.options.Options.{Options}
use Rattle.b2sum_commands.specs.Messages.{is_standard_input}
use Rattle.b2sum_commands.specs.World.{Place, Streams, World, AcceptsNothingOrPart}
use Rattle.b2sum_commands.specs.PrintedSums.{KeepsInputUnlessRead}
use Rattle.b2sum_commands.specs.Manifests.{item, VerdictIsRight, verdict_lines, StopsInVerdict}
use Rattle.b2sum_commands.specs.Manifests.{StopsInItem, StopsInLine}
use Rattle.b2sum_commands.specs.LineReads.{HasNoNewline, LineIsCutOff, SourceIsAfterLine}
use Rattle.b2sum_commands.specs.ManifestChecks.{with_input_read_to, LinesAreReadAndChecked}
use Rattle.b2sum_commands.specs.ManifestChecks.{CountsAtEnd, EndsAtLineBoundary}
use Rattle.b2sum_commands.specs.ManifestChecks.{ManifestCheckIsStopped}
use Rattle.b2sum_commands.specs.ManifestChecks.{manifest_bytes}
use Rattle.b2sum_commands.specs.ManifestChecks.{ManifestIsCheckedFromHere}
use Rattle.b2sum_commands.proofs.CheckedLines.{Reading, lines_of-line_and_rest}
use Rattle.b2sum_commands.proofs.CheckedLines.{lines_of-single_line, IsNotStandardInput}
use Rattle.b2sum_commands.proofs.CheckedLines.{item-not_standard_input}
use Rattle.b2sum_commands.proofs.CheckedLines.{verdict-from_any_input}

-- What holds if a call fails.
pub on_err-if_it_holds : {A E : Type 0} (r : Result A E) (P : Type 0) → P → OnErr r P
on_err-if_it_holds (Ok x) P holds = tt
on_err-if_it_holds (Err e) P holds = holds

-- What holds if a call has no result, since it fails.
pub result_ok-none_after_error : {A E : Type 0} (P : Option A → Type 0) (r : Result A E)
    (Q : E → Type 0)
    → IsErrAnd r Q → P None → P (result_ok r)
result_ok-none_after_error P (Ok x) Q failed holds = absurd failed
result_ok-none_after_error P (Err e) Q failed holds = holds

-- What holds of something that is there.
pub IfSome-holds_for_value : {A : Type 0} (P : A → Type 0) (found : Option A) (x : A) → found
    ≡ Some x
    → IfSome found P → P x
IfSome-holds_for_value P found x is holds = subst (λ f. IfSome f P) is holds

-- ---- lines

-- A part of the line of a verdict is printed, or nothing.
pub stops_in_verdict-if_write_stops : (w : World) (o : Options) (i : Result Line Verdict)
    (old new : Streams) (v : Verdict)
    (found : List ℕ) → VerdictIsRight w o old.left i v found new.left
    → AcceptsNothingOrPart old.held new.held (verdict_lines o i v found)
    → StopsInVerdict w o i old new
stops_in_verdict-if_write_stops w o i old new v found right (inl same) = inl same
stops_in_verdict-if_write_stops w o i old new v found right (inr part) = inr
    (v, (found, right, part))

-- Nothing is printed for a line.
pub stops_in_item-if_nothing_printed : (w : World) (o : Options) (i : Option (Result Line Verdict))
    (old new : Streams)
    → new.held ≡ old.held → StopsInItem w o i old new
stops_in_item-if_nothing_printed w o None old new same = same
stops_in_item-if_nothing_printed w o (Some i) old new same = inl same

-- An error ended the check of an entry, and so of its line.
pub stops_in_line-if_in_verdict : (w : World) (o : Options) (input : Bool) (line : List ℕ)
    (old mid new : Streams)
    (e : Line) (place : Place) → item o input old.place.spacing line ≡ Some (Ok e)
    → mid ≡ record old { place = place } → StopsInVerdict w o (Ok e) mid new
    → StopsInLine w o input line old new
stops_in_line-if_in_verdict w o input line old mid new e place is at begun =
    subst (λ (i : Option (Result Line Verdict)). StopsInItem w o i old new) (sym is)
    (subst (λ (s : Streams). StopsInVerdict w o (Ok e) s new) at begun)

stops_in_item-from_later_input : (w : World) (o : Options) (i : Option (Result Line Verdict))
    (old new : Streams)
    → IsNotStandardInput i → StopsInItem w o i old new
    → StopsInItem w o i (with_input_read_to true new.left old) new
stops_in_item-from_later_input w o None old new other is = is
stops_in_item-from_later_input w o (Some i) old new other (inl same) = inl same
stops_in_item-from_later_input w o (Some i) old new other (inr part) = inr (
  part.0,
  (
    part.1.0,
    verdict-from_any_input w o old.left new.left new.left i part.0 part.1.0 other part.1.1,
    part.1.2,
  ),
)

-- Standard input may be read to where it is left, before the check of a line of it.
stops_in_line-from_later_input : (w : World) (o : Options) (input : Bool) (line : List ℕ)
    (old new : Streams)
    → StopsInLine w o input line old new
    → StopsInLine w o input line (with_input_read_to input new.left old) new
stops_in_line-from_later_input w o true line old new is =
    stops_in_item-from_later_input w o (item o true old.place.spacing line) old new
    (item-not_standard_input o old.place.spacing line) is
stops_in_line-from_later_input w o false line old new is = is

-- A line that is not empty has bytes.
pub nonempty_line_has_bytes : (line : List ℕ) (empty : Bool) → empty ≡ (length line == 0) → empty
    ≡ false
    → 0 < length line
nonempty_line_has_bytes [] empty is none = absurd (grind (arith, is, none))
nonempty_line_has_bytes (b ∷ line) empty is none = omega arith

-- ---- manifests

consumes-prefix : (a c : Option (List ℕ)) (bs cs : List ℕ) → Consumes a c (bs ++ cs)
    → (b : Option (List ℕ)) × Consumes a b bs
consumes-prefix None c bs cs p = (None, tt)
consumes-prefix (Some x) None bs cs p = absurd p
consumes-prefix (Some x) (Some z) bs cs p = (Some (cs ++ z), p ∙ append_assoc bs cs z)

read_to-left : (input : Bool) (left : Option (List ℕ)) (s : Streams)
    → KeepsInputUnlessRead input s.left (with_input_read_to input left s).left
read_to-left true left s = tt
read_to-left false left s = refl

input_kept-if_same : (input : Bool) (left : Option (List ℕ)) → KeepsInputUnlessRead input left left
input_kept-if_same true left = tt
input_kept-if_same false left = refl

-- An error came before the next line.
pub stopped-before_next_line : (w : World) (o : Options) (name : List ℕ) (input : Bool)
    (before : Option (List ℕ))
    (old : Streams) (unread : List ℕ) (rest : Option (List ℕ)) (now new : Streams)
    (vs : List Verdict) → Reading w o input before old unread rest now vs → new.held ≡ now.held
    → ManifestCheckIsStopped w o name input before old new
stopped-before_next_line w o name input before old unread rest now new vs r same =
    let first = consumes-prefix before rest r.done unread r.passed in
    record {
      text = r.done;
      rest = first.0;
      passed = first.1;
      whole = inl r.cuts;
      left = (with_input_read_to input now.left old).left;
      leaves = read_to-left input now.left old;
      lines = record {
        done = lines_of r.done;
        rest = [];
        are_all = sym (append-nil (lines_of r.done));
        results = vs;
        mid = with_input_read_to input now.left now;
        are_done = r.lines now.left;
        next = same;
      };
    }

stopped-in_line : (w : World) (o : Options) (name : List ℕ) (input : Bool)
    (before : Option (List ℕ)) (old : Streams)
    (unread : List ℕ) (rest : Option (List ℕ)) (now : Streams) (vs : List Verdict)
    (line text : List ℕ) (rest' : Option (List ℕ)) (mid new : Streams)
    (r : Reading w o input before old unread rest now vs) → Consumes before rest' text
    → lines_of text ≡ lines_of r.done ++ (line ∷ [])
    → EndsAtLineBoundary text ⊎ (IsAtEnd rest' ⊎ w.breaks name)
    → ((left : Option (List ℕ)) → with_input_read_to input left mid
    ≡ with_input_read_to input left now)
    → StopsInLine w o input line mid new → ManifestCheckIsStopped w o name input before old new
stopped-in_line w o name input before old unread rest now vs line text rest' mid new r passed all
    whole same begun = record {
      text = text;
      rest = rest';
      passed = passed;
      whole = whole;
      left = (with_input_read_to input new.left old).left;
      leaves = read_to-left input new.left old;
      lines = record {
        done = lines_of r.done;
        rest = line ∷ [];
        are_all = all;
        results = vs;
        mid = with_input_read_to input new.left now;
        are_done = r.lines new.left;
        next = subst (λ (s : Streams). StopsInLine w o input line s new) (same new.left)
            (stops_in_line-from_later_input w o input line mid new begun);
      };
    }

last_line-of_nonempty : (xs : List ℕ) → 0 < length xs → last_line_if_any xs ≡ xs ∷ []
last_line-of_nonempty [] none = absurd (omega (arith, none))
last_line-of_nonempty (x ∷ xs) some = refl

-- The line has no newline after it.
stopped-in_unterminated_line : (w : World) (o : Options) (name : List ℕ) (input : Bool)
    (before : Option (List ℕ)) (old : Streams)
    (unread : List ℕ) (rest : Option (List ℕ)) (now : Streams) (vs : List Verdict)
    (more line : List ℕ) (rest' : Option (List ℕ)) (mid new : Streams)
    → Reading w o input before old unread rest now vs → Consumes rest rest' more
    → HasNoNewline line × (unread ++ more ≡ line) → 0 < length line → IsAtEnd rest' ⊎ w.breaks name
    → ((left : Option (List ℕ)) → with_input_read_to input left mid
    ≡ with_input_read_to input left now)
    → StopsInLine w o input line mid new → ManifestCheckIsStopped w o name input before old new
stopped-in_unterminated_line w o name input before old unread rest now vs more line rest' mid new r
    taken cut some ends same begun =
    stopped-in_line w o name input before old unread rest now vs line (r.done ++ line) rest' mid new
    r
    (subst (Consumes before rest') (append_assoc r.done unread more ∙ ap (λ x. r.done ++ x) cut.1)
    (Consumes-trans before rest rest' (r.done ++ unread) more r.passed taken))
    (r.cuts line
    ∙ ap (λ x. lines_of r.done ++ x)
    (lines_of-single_line line cut.0 ∙ last_line-of_nonempty line some))
    (inr ends) same begun

-- The lines of a text are whole with one more line and its newline.
line_boundary-append_line : (text line : List ℕ) → EndsAtLineBoundary text → HasNoNewline line
    → EndsAtLineBoundary (text ++ (line ++ (10 ∷ [])))
line_boundary-append_line text line whole one = λ rest.
    let shut : List ℕ = line ++ (10 ∷ []) in
    ap lines_of (append_assoc text shut rest) ∙ whole (shut ++ rest)
    ∙ ap (λ x. lines_of text ++ x)
    (ap lines_of (append_assoc line (10 ∷ []) rest) ∙ lines_of-line_and_rest line rest one)
    ∙ sym (append_assoc (lines_of text) (line ∷ []) (lines_of rest))
    ∙ ap (λ x. x ++ lines_of rest)
    (sym (whole shut ∙ ap (λ x. lines_of text ++ x) (lines_of-line_and_rest line [] one)))

-- An error ended the check of the next line.
pub stopped-in_next_line : (w : World) (o : Options) (name : List ℕ) (input : Bool)
    (before : Option (List ℕ)) (old : Streams)
    (unread : List ℕ) (rest : Option (List ℕ)) (now : Streams) (vs : List Verdict) (end : LineEnd)
    (more line unread' : List ℕ) (rest' left : Option (List ℕ)) (mid new : Streams)
    → Reading w o input before old unread rest now vs → Consumes rest rest' more
    → LineIsCutOff end unread more line unread' → SourceIsAfterLine end rest' left (w.breaks name)
    → (end ≡ Newline) ⊎ (0 < length line)
    → ((l : Option (List ℕ)) → with_input_read_to input l mid ≡ with_input_read_to input l now)
    → StopsInLine w o input line mid new → ManifestCheckIsStopped w o name input before old new
stopped-in_next_line w o name input before old unread rest now vs Newline more line unread' rest'
    left mid new r taken cut after some same begun =
    let shut : List ℕ = line ++ (10 ∷ []) in
    let text : List ℕ = r.done ++ shut in
    let first = consumes-prefix before rest' text unread' (subst (Consumes before rest')
    (append_assoc r.done unread more
    ∙ ap (λ x. r.done ++ x) (cut.1 ∙ sym (append_assoc line (10 ∷ []) unread'))
    ∙ sym (append_assoc r.done shut unread'))
    (Consumes-trans before rest rest' (r.done ++ unread) more r.passed taken)) in
    stopped-in_line w o name input before old unread rest now vs line text first.0 mid new r first.1
    (r.cuts shut ∙ ap (λ x. lines_of r.done ++ x) (lines_of-line_and_rest line [] cut.0))
    (inl (line_boundary-append_line r.done line r.cuts cut.0)) same begun
stopped-in_next_line w o name input before old unread rest now vs Last more line unread' rest' left
    mid new r taken cut after some same begun =
    stopped-in_unterminated_line w o name input before old unread rest now vs more line rest' mid
    new r taken cut
    (other some) (inl (subst IsAtEnd (sym after.0) after.1)) same begun
  where
    other : (Last ≡ Newline) ⊎ (0 < length line) → 0 < length line
    other (inl is) = absurd (grind (arith, is))
    other (inr some) = some
stopped-in_next_line w o name input before old unread rest now vs Failure more line unread' rest'
    left mid new r taken cut after some same begun =
    stopped-in_unterminated_line w o name input before old unread rest now vs more line rest' mid
    new r taken cut
    (other some) (inr after) same begun
  where
    other : (Failure ≡ Newline) ⊎ (0 < length line) → 0 < length line
    other (inl is) = absurd (grind (arith, is))
    other (inr some) = some

-- An error came before a manifest was read.
pub error_before_manifest : (w : World) (o : Options) (name : List ℕ) (old new : Streams)
    → new.held ≡ old.held → ManifestIsCheckedFromHere w o name old new None
error_before_manifest w o name old new same = record {
  text = [];
  rest = manifest_bytes w old.left name;
  passed = Consumes-nil (manifest_bytes w old.left name);
  whole = inl (λ more. refl);
  left = old.left;
  leaves = input_kept-if_same (is_standard_input name) old.left;
  lines = record {
    done = [];
    rest = [];
    are_all = refl;
    results = [];
    mid = old;
    are_done = refl;
    next = same;
  };
}

counts_at_end-at_end_or_failed : (found : Option Counts) (vs : List Verdict)
    (rest at : Option (List ℕ)) (failed : Type 0)
    → CountsAtEnd found vs rest at failed → IsAtEnd rest ⊎ failed
counts_at_end-at_end_or_failed None vs rest at failed ends = inr ends
counts_at_end-at_end_or_failed (Some counts) vs rest at failed ends = inl
    (subst IsAtEnd (sym ends.1) ends.2)

-- An error came after the last line of a manifest.
pub stopped-after_last_line : (w : World) (o : Options) (name : List ℕ) (input : Bool)
    (before rest at : Option (List ℕ))
    (old mid new : Streams) (vs : List Verdict) (found : Option Counts)
    → LinesAreReadAndChecked w o input before rest old mid vs
    → CountsAtEnd found vs rest at (w.breaks name)
    → new.held ≡ mid.held → ManifestCheckIsStopped w o name input before old new
stopped-after_last_line w o name input before rest at old mid new vs found read ends same = record {
  text = read.text;
  rest = rest;
  passed = read.passed;
  whole = inr (counts_at_end-at_end_or_failed found vs rest at (w.breaks name) ends);
  left = (with_input_read_to input mid.left old).left;
  leaves = read_to-left input mid.left old;
  lines = record {
    done = lines_of read.text;
    rest = [];
    are_all = sym (append-nil (lines_of read.text));
    results = vs;
    mid = mid;
    are_done = read.lines;
    next = same;
  };
}
