-- Lines that are checked as they are read.
use Rattle.std.proofs.Common.{◌≡◌, ◌≢◌, ℕ, ◌<◌, ◌==◌, Bool, true, false, List, [], ◌∷◌, ◌++◌}
use Rattle.std.proofs.Common.{Option, Some, None, Result, Ok, Err, if◌then◌else◌, refl, ap, ◌∙◌}
use Rattle.std.proofs.Common.{sym, subst, length}
use Rattle.std.proofs.Common.{append_assoc, append-nil, is_none, inl, inr, arith}
use Rattle.std.proofs.KnownBytes.{Consumes-nil, Consumes-trans}
use Rattle.std.proofs.lemmas.List.Splits.{slice_split_at, slice_split_none, length-slice_split}
use Rattle.std.specs.Io.KnownBytes.{Consumes, IsAtEnd}
use Rattle.std.specs.Prelude.{⊤}
use Rattle.std.specs.List.{slice_split}
use Rattle.std.specs.Option.{option_map}
use Rattle.text_lines.specs.Cuts.{lines_of, lines_of_parts, last_line_if_any}
use Rattle.b2sum_lines.specs.ManifestLines.{Line, line_entry}
use Rattle.b2sum_lines.specs.declared.entry.Spacing.{Spacing}
use Rattle.b2sum_commands.specs.declared.check.Verdict.{Verdict}
use Rattle.b2sum_commands.specs.declared.check.Verdict.TheVariants.{Equal, Different, Unread}
use Rattle.b2sum_commands.specs.declared.check.Verdict.TheVariants.{Skipped, Malformed, Unmet}
use Rattle.b2sum_commands.specs.declared.check.Verdict.TheVariants.{Comment}
use Rattle.b2sum_commands.specs.declared.options.Options.{Options}
use Rattle.b2sum_commands.specs.LineNeeds.{lacks_of, meets}
use Rattle.b2sum_commands.specs.Messages.{is_standard_input}
use Rattle.b2sum_commands.specs.World.{Streams, World, OpenFileHasFailed, AreDoneInTurn, OnlyTells}
use Rattle.b2sum_commands.specs.World.{TellsText}
use Rattle.b2sum_commands.specs.PrintedSums.{SourceHasText, KeepsInputUnlessRead}
use Rattle.b2sum_commands.specs.Manifests.{item, checkable, line_content_unless_comment}
use Rattle.b2sum_commands.specs.Manifests.{ItemIsChecked, LineIsChecked, VerdictIsRight}
use Rattle.b2sum_commands.specs.Manifests.{TellsWhyUnread}
use Rattle.b2sum_commands.specs.LineReads.{HasNoNewline, LineIsCutOff, SourceIsAfterLine}
use Rattle.b2sum_commands.specs.LineReads.{source_left}
use Rattle.b2sum_commands.specs.Reports.{CountsMatchVerdicts, CountsAddVerdict, TellsManifestEnd}
use Rattle.b2sum_commands.specs.ManifestChecks.{with_input_read_to, LinesAreReadAndChecked}
use Rattle.b2sum_commands.specs.ManifestChecks.{CountsAtEnd, IsWholeText, IsPrefixOfSource}
use Rattle.b2sum_commands.specs.ManifestChecks.{ManifestIsCheckedFromHere, TellsOpenFailure}
use Rattle.b2sum_commands.specs.declared.check.Counts.{Counts}
use Rattle.b2sum_commands.specs.declared.line_reader.LineEnd.{LineEnd}
use Rattle.b2sum_commands.specs.declared.line_reader.LineEnd.TheVariants.{Newline, Last, Failure}
use Rattle.b2sum_commands.proofs.VerdictCounts.{counts_match-append}
use Rattle.b2sum_commands.proofs.VerdictCounts.{holds_by_counts-iff_by_verdicts}

-- ---- lines

lines_of_parts-before_part : (parts : List (List ℕ)) (part : List ℕ) → 0 < length parts
    → lines_of_parts (part ∷ parts) ≡ part ∷ lines_of_parts parts
lines_of_parts-before_part [] part some = absurd (omega (arith, some))
lines_of_parts-before_part (next ∷ parts) part some = refl

-- A line before a newline is the first.
pub lines_of-line_and_rest : (line rest : List ℕ) → HasNoNewline line
    → lines_of (line ++ (10 ∷ rest)) ≡ line ∷ lines_of rest
lines_of-line_and_rest line rest one =
    ap lines_of_parts (slice_split_at (λ (b : ℕ). b == 10) line 10 rest one refl)
    ∙ lines_of_parts-before_part (slice_split (λ (b : ℕ). b == 10) rest) line
    (omega (arith, length-slice_split (λ (b : ℕ). b == 10) rest))

-- A text without a newline is a line, if it is not empty.
pub lines_of-single_line : (line : List ℕ) → HasNoNewline line → lines_of line
    ≡ last_line_if_any line
lines_of-single_line line one = ap lines_of_parts (slice_split_none (λ (b : ℕ). b == 10) line one)

-- ---- turns

-- One more thing is done.
pub done_in_turn-append : {X Y : Type 0} (does : X → Streams → Streams → Y → Type 0) (xs : List X)
    (x : X)
    (old mid new : Streams) (ys : List Y) (y : Y) → AreDoneInTurn does xs old mid ys
    → does x mid new y
    → AreDoneInTurn does (xs ++ (x ∷ [])) old new (ys ++ (y ∷ []))
done_in_turn-append does [] x old mid new [] y before one =
    (new, subst (λ (s : Streams). does x s new y) before one, refl)
done_in_turn-append does [] x old mid new (z ∷ ys) y before one = absurd before
done_in_turn-append does (w ∷ xs) x old mid new [] y before one = absurd before
done_in_turn-append does (w ∷ xs) x old mid new (z ∷ ys) y before one =
    (before.0, before.1, done_in_turn-append does xs x before.0 mid new ys y before.2 one)

-- ---- entries of a manifest on standard input

-- The entry of a line, if it has one, is not for standard input.
abbrev pub IsNotStandardInput : Option (Result Line Verdict) → Type 0
IsNotStandardInput None = ⊤
IsNotStandardInput (Some (Err v)) = ⊤
IsNotStandardInput (Some (Ok e)) = is_standard_input e.name ≡ false

checkable-not_standard_input : (o : Options) (e : Option Line)
    → IsNotStandardInput (Some (checkable o true e))
checkable-not_standard_input o None = tt
checkable-not_standard_input o (Some e) = go (is_standard_input e.name) (meets o e) refl
  where
    go : (dash met : Bool) → is_standard_input e.name ≡ dash
        → IsNotStandardInput (Some (if dash then Err Malformed
        else if met then Ok e else Err (Unmet (lacks_of o e))))
    go true met is = tt
    go false true is = is
    go false false is = tt

pub item-not_standard_input : (o : Options) (s : Spacing) (line : List ℕ)
    → IsNotStandardInput (item o true s line)
item-not_standard_input o s line = go (line_content_unless_comment line)
  where
    go : (t : Option (List ℕ))
        → IsNotStandardInput
        (option_map (λ body. checkable o true (line_entry o.algorithm s body)) t)
    go None = tt
    go (Some body) = checkable-not_standard_input o (line_entry o.algorithm s body)

source_text-from_any_input : (dash : Bool) (held left after now : Option (List ℕ)) (text : List ℕ)
    → dash ≡ false → SourceHasText dash held left after text → SourceHasText dash held now now text
source_text-from_any_input true held left after now text is read = absurd (grind (arith, is))
source_text-from_any_input false held left after now text is read = (refl, read.1, read.2)

-- A verdict on another file does not depend on what is left of standard input.
pub verdict-from_any_input : (w : World) (o : Options) (left after now : Option (List ℕ))
    (i : Result Line Verdict)
    (v : Verdict) (found : List ℕ) → IsNotStandardInput (Some i)
    → VerdictIsRight w o left i v found after
    → VerdictIsRight w o now i v found now
verdict-from_any_input w o left after now (Err verdict) v found other is = (is.0, refl)
verdict-from_any_input w o left after now (Ok e) Equal found other is = (
  is.0,
  source_text-from_any_input (is_standard_input e.name) (w.files.holds e.name) left after
      now is.0 other is.1,
  is.2,
)
verdict-from_any_input w o left after now (Ok e) Different found other is = (
  is.0,
  source_text-from_any_input (is_standard_input e.name) (w.files.holds e.name) left after now is.0
      other is.1,
  is.2,
  is.3,
)
verdict-from_any_input w o left after now (Ok e) Unread found other is =
    (subst (λ (b : Bool). KeepsInputUnlessRead b now now) (sym other) refl, is.1, is.2)
verdict-from_any_input w o left after now (Ok e) Skipped found other is = (is.0, is.1, refl, is.3)
verdict-from_any_input w o left after now (Ok e) Malformed found other is = absurd is
verdict-from_any_input w o left after now (Ok e) (Unmet lacks) found other is = absurd is
verdict-from_any_input w o left after now (Ok e) Comment found other is = absurd is

unread_message-from_any_input : (w : World) (o : Options) (left : Option (List ℕ))
    (i : Result Line Verdict)
    (old new : Streams) → TellsWhyUnread w o i old new
    → TellsWhyUnread w o i (with_input_read_to true left old) (with_input_read_to true left new)
unread_message-from_any_input w o left (Err verdict) old new told = told
unread_message-from_any_input w o left (Ok e) old new told = told

item_check-from_any_input : (w : World) (o : Options) (line : List ℕ) (left : Option (List ℕ))
    (i : Option (Result Line Verdict)) (old new : Streams) (v : Verdict) → IsNotStandardInput i
    → ItemIsChecked w o line i old new v
    → ItemIsChecked w o line i (with_input_read_to true left old) (with_input_read_to true left new)
    v
item_check-from_any_input w o line left None old new v other is =
    (is.0, ap (with_input_read_to true left) is.1)
item_check-from_any_input w o line left (Some i) old new v other is =
    let moved = verdict-from_any_input w o old.left new.left left i v is.1.0 other is.1.1 in
    let told = λ (bad : v ≡ Unread). unread_message-from_any_input w o left i old new (is.2.0 bad)
    in
    (is.0, (is.1.0, moved, is.1.2), (told, is.2.1, is.2.2, is.2.3))

-- The check of a line does not depend on how far its manifest is read.
line_check-from_any_input : (w : World) (o : Options) (input : Bool) (line : List ℕ)
    (left : Option (List ℕ))
    (old new : Streams) (v : Verdict) → LineIsChecked w o input line old new v
    → LineIsChecked w o input line (with_input_read_to input left old)
    (with_input_read_to input left new) v
line_check-from_any_input w o true line left old new v is =
    item_check-from_any_input w o line left (item o true old.place.spacing line) old new v
    (item-not_standard_input o old.place.spacing line) is
line_check-from_any_input w o false line left old new v is = is

source_text-keeps_input : (dash : Bool) (held left after : Option (List ℕ)) (text : List ℕ)
    → dash ≡ false → SourceHasText dash held left after text → after ≡ left
source_text-keeps_input true held left after text is read = absurd (grind (arith, is))
source_text-keeps_input false held left after text is read = read.0

verdict-keeps_input : (w : World) (o : Options) (left after : Option (List ℕ))
    (i : Result Line Verdict)
    (v : Verdict) (found : List ℕ) → IsNotStandardInput (Some i)
    → VerdictIsRight w o left i v found after
    → after ≡ left
verdict-keeps_input w o left after (Err verdict) v found other is = is.1
verdict-keeps_input w o left after (Ok e) Equal found other is =
    source_text-keeps_input (is_standard_input e.name) (w.files.holds e.name) left after is.0 other
    is.1
verdict-keeps_input w o left after (Ok e) Different found other is =
    source_text-keeps_input (is_standard_input e.name) (w.files.holds e.name) left after is.0 other
    is.1
verdict-keeps_input w o left after (Ok e) Unread found other is =
    subst (λ (b : Bool). KeepsInputUnlessRead b left after) other is.0
verdict-keeps_input w o left after (Ok e) Skipped found other is = is.2
verdict-keeps_input w o left after (Ok e) Malformed found other is = absurd is
verdict-keeps_input w o left after (Ok e) (Unmet lacks) found other is = absurd is
verdict-keeps_input w o left after (Ok e) Comment found other is = absurd is

item_check-keeps_input : (w : World) (o : Options) (line : List ℕ)
    (i : Option (Result Line Verdict))
    (old new : Streams) (v : Verdict) → IsNotStandardInput i → ItemIsChecked w o line i old new v
    → new.left ≡ old.left
item_check-keeps_input w o line None old new v other is = ap (λ (s : Streams). s.left) is.1
item_check-keeps_input w o line (Some i) old new v other is =
    verdict-keeps_input w o old.left new.left i v is.1.0 other is.1.1

-- The check of a line leaves its manifest as far as it is read.
pub line_check-keeps_source : {F : Type 0} (left : F → Option (List ℕ)) (file : Option F)
    (w : World)
    (o : Options) (input : Bool) (line : List ℕ) (old new : Streams) (v : Verdict)
    → is_none file ≡ input → LineIsChecked w o input line old new v
    → source_left left file old.left ≡ source_left left file new.left
line_check-keeps_source left (Some file) w o input line old new v same is = refl
line_check-keeps_source left None w o true line old new v same is =
    sym (item_check-keeps_input w o line (item o true old.place.spacing line) old new v
    (item-not_standard_input o old.place.spacing line) is)
line_check-keeps_source left None w o false line old new v same is = absurd (grind (arith, same))

-- ---- as far as a manifest is read

-- The lines of a manifest are checked, up to what is unread of the text that was read. It had
-- `before` left at first, and has `rest` left now.
pub record Reading (w : World) (o : Options) (input : Bool) (before : Option (List ℕ))
    (old : Streams) (unread : List ℕ) (rest : Option (List ℕ)) (now : Streams)
    (vs : List Verdict) : Type 0 where
  pub done : List ℕ
  pub passed : Consumes before rest (done ++ unread)
  pub cuts : (more : List ℕ) → lines_of (done ++ more) ≡ lines_of done ++ lines_of more
  pub lines : (left : Option (List ℕ))
      → AreDoneInTurn (LineIsChecked w o input) (lines_of done) (with_input_read_to input left old)
      (with_input_read_to input left now) vs

pub read_so_far-start : (w : World) (o : Options) (input : Bool) (before : Option (List ℕ))
    (old : Streams) (unread : List ℕ) → unread ≡ [] → Reading w o input before old unread before old []
read_so_far-start w o input before old unread none = record {
  done = [];
  passed = subst (Consumes before before) (sym none) (Consumes-nil before);
  cuts = λ more. refl;
  lines = λ left. refl;
}

-- One more line is read and checked.
pub read_so_far-next_line : (w : World) (o : Options) (input : Bool) (before : Option (List ℕ))
    (old : Streams) (unread : List ℕ) (rest : Option (List ℕ)) (now : Streams) (vs : List Verdict)
    (more line unread' : List ℕ) (rest' : Option (List ℕ)) (mid new : Streams) (v : Verdict)
    → Reading w o input before old unread rest now vs → Consumes rest rest' more
    → HasNoNewline line → unread ++ more ≡ line ++ (10 ∷ unread')
    → ((left : Option (List ℕ)) → with_input_read_to input left mid
    ≡ with_input_read_to input left now)
    → LineIsChecked w o input line mid new v
    → Reading w o input before old unread' rest' new (vs ++ (v ∷ []))
read_so_far-next_line w o input before old unread rest now vs more line unread' rest' mid new v r
    taken one cut same checked =
    let shut : List ℕ = line ++ (10 ∷ []) in
    let shut_is : lines_of shut ≡ line ∷ [] = lines_of-line_and_rest line [] one in
    let all : lines_of (r.done ++ shut) ≡ lines_of r.done ++ (line ∷ []) =
    r.cuts shut ∙ ap (λ x. lines_of r.done ++ x) shut_is in
    record {
      done = r.done ++ shut;
      passed = subst (Consumes before rest')
          (append_assoc r.done unread more ∙ ap (λ x. r.done ++ x) (cut ∙ sym (append_assoc line (10 ∷ []) unread'))
          ∙ sym (append_assoc r.done shut unread'))
          (Consumes-trans before rest rest' (r.done ++ unread) more r.passed taken);
      cuts = λ rest. ap lines_of (append_assoc r.done shut rest) ∙ r.cuts (shut ++ rest)
          ∙ ap (λ x. lines_of r.done ++ x)
          (ap lines_of (append_assoc line (10 ∷ []) rest) ∙ lines_of-line_and_rest line rest one)
          ∙ sym (append_assoc (lines_of r.done) (line ∷ []) (lines_of rest))
          ∙ ap (λ x. x ++ lines_of rest) (sym all);
      lines = λ left. subst (λ (xs : List (List ℕ)). AreDoneInTurn (LineIsChecked w o input) xs
          (with_input_read_to input left old) (with_input_read_to input left new) (vs ++ (v ∷ [])))
          (sym all)
          (done_in_turn-append (LineIsChecked w o input) (lines_of r.done) line
          (with_input_read_to input left old)
          (with_input_read_to input left now) (with_input_read_to input left new) vs v
          (r.lines left)
          (subst (λ (s : Streams). LineIsChecked w o input line s
          (with_input_read_to input left new) v) (same left)
          (line_check-from_any_input w o input line left mid new v checked)));
    }

-- What is left of a stream is as far as it is read.
input_read_to-own_input : (input : Bool) (s : Streams) → with_input_read_to input s.left s ≡ s
input_read_to-own_input true s = refl
input_read_to-own_input false s = refl

-- What is read has no newline left, and no more lines.
pub read_so_far-no_line_left : (w : World) (o : Options) (input : Bool) (before : Option (List ℕ))
    (old : Streams) (unread : List ℕ) (rest : Option (List ℕ)) (now : Streams) (vs : List Verdict)
    (more : List ℕ) (rest' : Option (List ℕ)) (new : Streams)
    → Reading w o input before old unread rest now vs → Consumes rest rest' more
    → unread ++ more ≡ []
    → ((left : Option (List ℕ)) → with_input_read_to input left new
    ≡ with_input_read_to input left now)
    → LinesAreReadAndChecked w o input before rest' old new vs
read_so_far-no_line_left w o input before old unread rest now vs more rest' new r taken none same =
    record {
      text = r.done;
      passed = subst (Consumes before rest')
          (append_assoc r.done unread more ∙ ap (λ x. r.done ++ x) none ∙ append-nil r.done)
          (Consumes-trans before rest rest' (r.done ++ unread) more r.passed taken);
      lines = subst (λ (s : Streams). AreDoneInTurn (LineIsChecked w o input) (lines_of r.done)
          (with_input_read_to input new.left old) s vs)
          (sym (same new.left) ∙ input_read_to-own_input input new)
          (r.lines new.left);
    }

-- What is read has no newline left, and is the last line, which is checked.
pub read_so_far-last_line : (w : World) (o : Options) (input : Bool) (before : Option (List ℕ))
    (old : Streams) (unread : List ℕ) (rest : Option (List ℕ)) (now : Streams) (vs : List Verdict)
    (more line : List ℕ) (rest' : Option (List ℕ)) (mid new : Streams) (v : Verdict)
    → Reading w o input before old unread rest now vs → Consumes rest rest' more
    → HasNoNewline line → 0 < length line → unread ++ more ≡ line
    → ((left : Option (List ℕ)) → with_input_read_to input left mid
    ≡ with_input_read_to input left now)
    → LineIsChecked w o input line mid new v
    → LinesAreReadAndChecked w o input before rest' old new (vs ++ (v ∷ []))
read_so_far-last_line w o input before old unread rest now vs more line rest' mid new v r taken one
    some cut same checked =
    let all : lines_of (r.done ++ line) ≡ lines_of r.done ++ (line ∷ []) =
    r.cuts line
    ∙ ap (λ x. lines_of r.done ++ x)
    (lines_of-single_line line one ∙ last_line-of_nonempty line some) in
    record {
      text = r.done ++ line;
      passed = subst (Consumes before rest')
          (append_assoc r.done unread more ∙ ap (λ x. r.done ++ x) cut)
          (Consumes-trans before rest rest' (r.done ++ unread) more r.passed taken);
      lines = subst
          (λ (s : Streams). AreDoneInTurn (LineIsChecked w o input) (lines_of (r.done ++ line))
          (with_input_read_to input new.left old) s (vs ++ (v ∷ [])))
          (input_read_to-own_input input new)
          (subst (λ (xs : List (List ℕ)). AreDoneInTurn (LineIsChecked w o input) xs
          (with_input_read_to input new.left old) (with_input_read_to input new.left new)
          (vs ++ (v ∷ []))) (sym all)
          (done_in_turn-append (LineIsChecked w o input) (lines_of r.done) line
          (with_input_read_to input new.left old)
          (with_input_read_to input new.left now) (with_input_read_to input new.left new) vs v
          (r.lines new.left)
          (subst (λ (s : Streams). LineIsChecked w o input line s
          (with_input_read_to input new.left new) v)
          (same new.left) (line_check-from_any_input w o input line new.left mid new v checked))));
    }
  where
    last_line-of_nonempty : (xs : List ℕ) → 0 < length xs → last_line_if_any xs ≡ xs ∷ []
    last_line-of_nonempty [] none = absurd (omega (arith, none))
    last_line-of_nonempty (x ∷ xs) some = refl

-- A source that is read changes only what is left of standard input, if it is that.
pub input_read_to-unchanged_streams : (input : Bool) (mid now : Streams) (after : Option (List ℕ))
    → mid ≡ record now { left = after } → (input ≡ false → after ≡ now.left)
    → (left : Option (List ℕ)) → with_input_read_to input left mid
    ≡ with_input_read_to input left now
input_read_to-unchanged_streams true mid now after is other left = ap
    (λ (s : Streams). record s { left = left }) is
input_read_to-unchanged_streams false mid now after is other left =
    is ∙ ap (λ (l : Option (List ℕ)). record now { left = l }) (other refl)

-- What the check of all lines returns.
abbrev pub LinesAreCheckedWithCounts : World → Options → Bool → Option (List ℕ) → Option (List ℕ)
    → Type 0 → Streams
    → Streams → Option Counts → Type 0
LinesAreCheckedWithCounts w o input before left failed old new found = (rest : Option (List ℕ))
    × (vs : List Verdict)
    × LinesAreReadAndChecked w o input before rest old new vs
    × CountsAtEnd found vs rest left failed

-- The counts at the end, if no read failed.
pub record CountsUnlessFailed (end : LineEnd) (counts : Counts) (found : Option Counts) : Type 0
  where
    pub last : end ≢ Failure → found ≡ Some counts
    pub failure : end ≡ Failure → found ≡ None

counts_at_end-of_counts : (end : LineEnd) (vs : List Verdict) (counts : Counts)
    (found : Option Counts)
    (rest left : Option (List ℕ)) (failed : Type 0) → end ≢ Newline
    → SourceIsAfterLine end rest left failed
    → CountsMatchVerdicts vs counts → CountsUnlessFailed end counts found
    → CountsAtEnd found vs rest left failed
counts_at_end-of_counts Newline vs counts found rest left failed other after counted is = absurd
    (other refl)
counts_at_end-of_counts Last vs counts found rest left failed other after counted is =
    subst (λ (f : Option Counts). CountsAtEnd f vs rest left failed) (sym (is.last apart))
    (counted, after.0, after.1)
  where
    apart : Last ≡ Failure → ⊥
    apart e = grind (arith, e)
counts_at_end-of_counts Failure vs counts found rest left failed other after counted is =
    subst (λ (f : Option Counts). CountsAtEnd f vs rest left failed) (sym (is.failure refl)) after

line-is_all_unread : (end : LineEnd) (old more line new : List ℕ) → end ≢ Newline
    → LineIsCutOff end old more line new → HasNoNewline line × (old ++ more ≡ line)
line-is_all_unread Newline old more line new other cut = absurd (other refl)
line-is_all_unread Last old more line new other cut = cut
line-is_all_unread Failure old more line new other cut = cut

-- The manifest has no more lines.
pub lines_checked-at_end : (w : World) (o : Options) (input : Bool) (before : Option (List ℕ))
    (old : Streams) (unread : List ℕ) (rest : Option (List ℕ)) (now : Streams) (vs : List Verdict)
    (end : LineEnd) (more line unread' : List ℕ) (rest' left : Option (List ℕ)) (failed : Type 0)
    (new : Streams) (counts : Counts) (found : Option Counts)
    → Reading w o input before old unread rest now vs → CountsMatchVerdicts vs counts
    → Consumes rest rest' more → LineIsCutOff end unread more line unread'
    → SourceIsAfterLine end rest' left failed → end ≢ Newline → line ≡ []
    → CountsUnlessFailed end counts found
    → ((l : Option (List ℕ)) → with_input_read_to input l new ≡ with_input_read_to input l now)
    → LinesAreCheckedWithCounts w o input before left failed old new found
lines_checked-at_end w o input before old unread rest now vs end more line unread' rest' left failed
    new counts found r counted taken cut after other none is same = (
      rest',
      vs,
      read_so_far-no_line_left w o input before old unread rest now vs more rest' new r taken
          ((line-is_all_unread end unread more line unread' other cut).1 ∙ none) same,
      counts_at_end-of_counts end vs counts found rest' left failed other after counted is,
    )

-- The manifest has one more line, and no newline after it.
pub found_last : (w : World) (o : Options) (input : Bool) (before : Option (List ℕ))
    (old : Streams) (unread : List ℕ) (rest : Option (List ℕ)) (now : Streams) (vs : List Verdict)
    (end : LineEnd) (more line unread' : List ℕ) (rest' left : Option (List ℕ)) (failed : Type 0)
    (mid new : Streams) (v : Verdict) (counts sums : Counts) (found : Option Counts)
    → Reading w o input before old unread rest now vs → CountsMatchVerdicts vs counts
    → Consumes rest rest' more → LineIsCutOff end unread more line unread'
    → SourceIsAfterLine end rest' left failed → end ≢ Newline → 0 < length line
    → CountsUnlessFailed end sums found
    → ((l : Option (List ℕ)) → with_input_read_to input l mid ≡ with_input_read_to input l now)
    → LineIsChecked w o input line mid new v → CountsAddVerdict v counts sums
    → LinesAreCheckedWithCounts w o input before left failed old new found
found_last w o input before old unread rest now vs end more line unread' rest' left failed mid new v counts sums found r counted taken cut after other some is same checked adds =
    let parts = line-is_all_unread end unread more line unread' other cut in (
      rest',
      vs ++ (v ∷ []),
      read_so_far-last_line w o input before old unread rest now vs more line rest' mid new v r
          taken parts.0
          some parts.1 same checked,
      counts_at_end-of_counts end (vs ++ (v ∷ [])) sums found rest' left failed other after
          (counts_match-append vs v counts sums counted adds) is,
    )

-- The manifest has one more line, and a newline after it.
pub lines_checked-with_next_line : (w : World) (o : Options) (input : Bool)
    (before : Option (List ℕ))
    (old : Streams) (unread : List ℕ) (rest : Option (List ℕ)) (now : Streams) (vs : List Verdict)
    (end : LineEnd) (more line unread' : List ℕ) (rest' left : Option (List ℕ)) (failed : Type 0)
    (mid new : Streams) (v : Verdict) (counts sums : Counts)
    → Reading w o input before old unread rest now vs → CountsMatchVerdicts vs counts
    → Consumes rest rest' more → LineIsCutOff end unread more line unread'
    → SourceIsAfterLine end rest' left failed → end ≡ Newline
    → ((l : Option (List ℕ)) → with_input_read_to input l mid ≡ with_input_read_to input l now)
    → LineIsChecked w o input line mid new v → CountsAddVerdict v counts sums
    → (ws : List Verdict) × Reading w o input before old unread' left new ws
    × CountsMatchVerdicts ws sums
lines_checked-with_next_line w o input before old unread rest now vs Newline more line unread' rest'
    left failed mid new v counts sums r counted taken cut after newline same checked adds = (
      vs ++ (v ∷ []),
      read_so_far-next_line w o input before old unread rest now vs more line unread' left mid new v r
          (subst (λ (l : Option (List ℕ)). Consumes rest l more) after taken) cut.0 cut.1 same checked,
      counts_match-append vs v counts sums counted adds,
    )
lines_checked-with_next_line w o input before old unread rest now vs Last more line unread' rest'
    left failed mid new v counts sums r counted taken cut after newline same checked adds =
    absurd (grind (arith, newline))
lines_checked-with_next_line w o input before old unread rest now vs Failure more line unread' rest'
    left failed mid new v counts sums r counted taken cut after newline same checked adds =
    absurd (grind (arith, newline))

-- A read of a manifest, whose name stays the same.
pub line_read-from_same_name : {F : Type 0} (named : F → List ℕ) (failed : F → Bool) (end : LineEnd)
    (before left : Option (List ℕ)) (unread line unread' : List ℕ) (now first : List ℕ)
    → now ≡ first
    → (more : List ℕ) × (rest : Option (List ℕ)) × Consumes before rest more
    × LineIsCutOff end unread more line unread'
    × SourceIsAfterLine end rest left (OpenFileHasFailed named failed now)
    → (more : List ℕ) × (rest : Option (List ℕ)) × Consumes before rest more
    × LineIsCutOff end unread more line unread'
    × SourceIsAfterLine end rest left (OpenFileHasFailed named failed first)
line_read-from_same_name named failed end before left unread line unread' now first same read = (
  read.0,
  read.1,
  read.2,
  read.3,
  subst (λ (n : List ℕ). SourceIsAfterLine end read.1 left (OpenFileHasFailed named failed n)) same
      read.4,
)

-- ---- the check of a manifest

is_text : (dash : Bool) (held left after : Option (List ℕ)) (text : List ℕ)
    (before rest at : Option (List ℕ)) → before ≡ (if dash then left else held)
    → Consumes before rest text → rest ≡ at → IsAtEnd at → (dash ≡ true → at ≡ after)
    → IsWholeText dash held left (if dash then after else left) text
is_text true held left after text before rest at from passed is counts_at_end-of_counts input = (
  subst (λ (l : Option (List ℕ)). Consumes l after text) from
      (subst (λ (l : Option (List ℕ)). Consumes before l text) (is ∙ input refl) passed),
  subst IsAtEnd (input refl) counts_at_end-of_counts,
)
is_text false held left after text before rest at from passed is counts_at_end-of_counts input = (
  refl,
  rest,
  subst (λ (l : Option (List ℕ)). Consumes l rest text) from passed,
  subst IsAtEnd (sym is) counts_at_end-of_counts,
)

prefix_of_source-of_manifest : (dash : Bool) (held left : Option (List ℕ)) (text : List ℕ)
    (before rest : Option (List ℕ)) → before ≡ (if dash then left else held)
    → Consumes before rest text → IsPrefixOfSource dash held left text
prefix_of_source-of_manifest true held left text before rest from passed =
    (rest, subst (λ (l : Option (List ℕ)). Consumes l rest text) from passed)
prefix_of_source-of_manifest false held left text before rest from passed =
    (rest, subst (λ (l : Option (List ℕ)). Consumes l rest text) from passed)

-- A manifest that is read to its end, or as far as a read failed, and its last messages. `at` is
-- what it has left then.
pub manifest_checked-at_end : (w : World) (o : Options) (name : List ℕ) (old mid new : Streams)
    (vs : List Verdict) (found : Option Counts) (holds : Bool) (before rest at : Option (List ℕ))
    → before ≡ (if is_standard_input name then old.left else w.files.holds name)
    → LinesAreReadAndChecked w o (is_standard_input name) before rest old mid vs
    → CountsAtEnd found vs rest at (w.breaks name) → (is_standard_input name ≡ true → at ≡ mid.left)
    → OnlyTells mid new → TellsManifestEnd w.program o name found holds (TellsText mid new)
    → ManifestIsCheckedFromHere w o name old new (Some holds)
manifest_checked-at_end w o name old mid new vs None holds before rest at from read broken input
    last told =
    inl (
      told.0,
      record {
        text = read.text;
        left = (with_input_read_to (is_standard_input name) mid.left old).left;
        verdicts = vs;
        begins = prefix_of_source-of_manifest (is_standard_input name) (w.files.holds name) old.left
            read.text before rest from
            read.passed;
        are_judged = record { end = mid; lines = read.lines; last = last };
        told = inr (broken, told.1);
      },
    )
manifest_checked-at_end w o name old mid new vs (Some counts) holds before rest at from read
    counts_at_end-of_counts input last told =
    inr (record {
      text = read.text;
      left = (with_input_read_to (is_standard_input name) mid.left old).left;
      verdicts = vs;
      is_text = is_text (is_standard_input name) (w.files.holds name) old.left mid.left read.text before rest
          at from read.passed counts_at_end-of_counts.1 counts_at_end-of_counts.2 input;
      are_judged = record { end = mid; lines = read.lines; last = last };
      is_result = told.0
          ∙ holds_by_counts-iff_by_verdicts o.is_strict vs counts counts_at_end-of_counts.0;
      reported = record { counts = counts; are_counted = counts_at_end-of_counts.0; told = told.1 };
    })

-- A manifest that cannot be opened.
pub manifest_checked-if_unopened : (w : World) (o : Options) (name : List ℕ) (old new : Streams)
    → OnlyTells old new
    → TellsOpenFailure w name old new → ManifestIsCheckedFromHere w o name old new (Some false)
manifest_checked-if_unopened w o name old new last told = inl (
  refl,
  record {
    text = [];
    left = old.left;
    verdicts = [];
    begins = prefix_of_source-of_manifest (is_standard_input name) (w.files.holds name) old.left []
        (if is_standard_input name then old.left else w.files.holds name) _ refl (Consumes-nil _);
    are_judged = record { end = old; lines = refl; last = last };
    told = inl told;
  },
)

-- What is left of a manifest on standard input is what is left of that.
pub bytes_left-of_standard_input : {F : Type 0} (left : F → Option (List ℕ)) (file : Option F)
    (input : Option (List ℕ)) → is_none file ≡ true → source_left left file input ≡ input
bytes_left-of_standard_input left None input is = refl
bytes_left-of_standard_input left (Some file) input is = absurd (grind (arith, is))
