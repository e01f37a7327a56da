-- The check of lists that are sealed.
use Rattle.std.proofs.Common.{◌≡◌, ◌⊎◌, ℕ, ◌^◌, ◌≤◌, ◌&&◌, Bool, true, false, List, [], ◌∷◌, ◌++◌}
use Rattle.std.proofs.Common.{Option, Some, None, if◌then◌else◌, length}
use Rattle.std.proofs.Common.{inl, inr, refl, ap, ◌∙◌, sym, subst, append-nil, true≢false}
use Rattle.std.specs.Io.KnownBytes.{Appends, Consumes, IsAtEnd}
use Rattle.std.specs.declared.io.Error.{Error}
use Rattle.text_lines.specs.Cuts.{lines_of}
use Rattle.b2sum_lines.specs.declared.entry.Spacing.{Spacing}
use Rattle.b2sum_commands.specs.declared.check.Counts.{Counts}
use Rattle.b2sum_commands.specs.declared.check.Verdict.{Verdict}
use Rattle.b2sum_commands.specs.declared.options.Options.{Options}
use Rattle.b2sum_commands.specs.ManifestChecks.{IsWholeText}
use Rattle.b2sum_commands.specs.Manifests.{StopsInLine, LineIsChecked}
use Rattle.b2sum_commands.specs.Messages.{Cannot, is_standard_input}
use Rattle.b2sum_commands.specs.PrintedSums.{ListKeepsPrinted, DigestLineIsPrinted}
use Rattle.b2sum_commands.specs.Reports.{CountsMatchVerdicts, TellsManifestEnd}
use Rattle.b2sum_commands.specs.FolderChecks.{FoldersAreComparedIfAny, entry_names_of_lines}
use Rattle.b2sum_commands.specs.LongLists.{HasMoreBytesThan, list_too_long_reason}
use Rattle.b2sum_commands.specs.SealedLists.{FilesArePrinted, ListIsCheckedBySeal}
use Rattle.b2sum_commands.specs.SealedLists.{LastLineSealsText, CannotReadList}
use Rattle.b2sum_commands.specs.SealedLists.{TellsListUnread, seal_line, broken_seal_message}
use Rattle.b2sum_commands.specs.World.{NamesAreDoneInTurn, AreDoneInTurn, IsStoppedInTurn}
use Rattle.b2sum_commands.specs.World.{OnlyTells, AcceptsNothingOrPart, Streams}
use Rattle.b2sum_commands.specs.World.{TellsMessage, TellsText, World}
use Rattle.b2sum_commands.proofs.DoneInTurn.{DoneSoFar, items_of, done_so_far-all, done_so_far-next}
use Rattle.b2sum_commands.proofs.KnownBytes.{IsKnown}
use Rattle.b2sum_commands.proofs.VerdictCounts.{holds_by_counts-iff_by_verdicts}

-- ---- the list that is printed

-- A list that is printed and sealed.
pub list_printed-and_sealed : (sealed : Bool) (w : World) (o : Options) (names : List (List ℕ))
    (old mid new : Streams) (list seal : List ℕ) (all : Bool) → sealed ≡ true → all ≡ true
    → NamesAreDoneInTurn (DigestLineIsPrinted w o) names old mid (Some all)
    → ListKeepsPrinted sealed old.held mid.held [] list
    → seal ≡ seal_line w.hashing o list → Appends mid.held new.held seal → new.told ≡ mid.told
    → FilesArePrinted sealed w o names old new (Some true)
list_printed-and_sealed true w o names old mid new list seal true is all lines kept line appends
    told = (
      mid,
      list,
      lines,
      subst (Appends old.held mid.held) (sym kept.2) kept.1,
      subst (Appends mid.held new.held) line appends,
      told,
    )
list_printed-and_sealed true w o names old mid new list seal false is all lines kept line appends
    told =
    absurd (true≢false (sym all))
list_printed-and_sealed false w o names old mid new list seal all is whole lines kept line appends
    told =
    absurd (true≢false (sym is))

-- An error came before the seal of a list was printed, or in the midst of it.
pub list_printed-stopped_in_seal : (sealed : Bool) (w : World) (o : Options) (names : List (List ℕ))
    (old mid new : Streams) (list : List ℕ) (all : Bool) → sealed ≡ true → all ≡ true
    → NamesAreDoneInTurn (DigestLineIsPrinted w o) names old mid (Some all)
    → ListKeepsPrinted sealed old.held mid.held [] list
    → AcceptsNothingOrPart mid.held new.held (seal_line w.hashing o list)
    → FilesArePrinted sealed w o names old new None
list_printed-stopped_in_seal true w o names old mid new list true is all lines kept
    result_ok-none_after_error =
    inr (
      mid,
      list,
      lines,
      subst (Appends old.held mid.held) (sym kept.2) kept.1,
      result_ok-none_after_error,
    )
list_printed-stopped_in_seal true w o names old mid new list false is all lines kept
    result_ok-none_after_error =
    absurd (true≢false (sym all))
list_printed-stopped_in_seal false w o names old mid new list all is whole lines kept
    result_ok-none_after_error =
    absurd (true≢false (sym is))

-- A list of which a file cannot be read is not sealed.
pub list_printed-unsealed : (sealed : Bool) (w : World) (o : Options) (names : List (List ℕ))
    (old new : Streams) (all : Bool) → all ≡ false
    → NamesAreDoneInTurn (DigestLineIsPrinted w o) names old new (Some all)
    → FilesArePrinted sealed w o names old new (Some false)
list_printed-unsealed true w o names old new false is lines = lines
list_printed-unsealed true w o names old new true is lines = absurd (true≢false is)
list_printed-unsealed false w o names old new false is lines = lines
list_printed-unsealed false w o names old new true is lines = absurd (true≢false is)

-- An error ended the lines of files.
pub list_printed-stopped_in_lines : (sealed : Bool) (w : World) (o : Options)
    (names : List (List ℕ))
    (old new : Streams) → NamesAreDoneInTurn (DigestLineIsPrinted w o) names old new None
    → FilesArePrinted sealed w o names old new None
list_printed-stopped_in_lines true w o names old new lines = inl lines
list_printed-stopped_in_lines false w o names old new lines = lines

-- ---- the list that is read

pub too_many_bytes-of_known_list : (held left : Option (List ℕ)) (most : ℕ) → IsKnown held left
    → HasMoreBytesThan left most
    → HasMoreBytesThan held most
too_many_bytes-of_known_list None left most known long = (long.0, None, tt, long.3)
too_many_bytes-of_known_list (Some bytes) left most known long =
    subst (λ (l : Option (List ℕ)). HasMoreBytesThan l most) known long

-- An open list of this name, of which so much is left, is not read, as a message says.
abbrev pub OpenListIsNotRead : World → List ℕ → ℕ → Option (List ℕ) → Streams → Streams → Type 0
OpenListIsNotRead w name most left old new = (reason : List ℕ)
    × (((e : Error) × w.fails name e × w.files.describes e reason)
    ⊎ (HasMoreBytesThan left most × (reason ≡ list_too_long_reason)))
    × TellsMessage w old new (Cannot name reason)

pub list_unread_told-for_standard_input : (w : World) (name : List ℕ) (most : ℕ) (old new : Streams)
    → is_standard_input name ≡ true → OpenListIsNotRead w name most old.left old new
    → TellsListUnread w name most old new
list_unread_told-for_standard_input w name most old new dash told = (told.0, go told.1, told.2)
  where
    go : ((e : Error) × w.fails name e × w.files.describes e told.0)
        ⊎ (HasMoreBytesThan old.left most × (told.0 ≡ list_too_long_reason))
        → CannotReadList w old.left name most told.0
    go (inl broken) = inl (broken.0, inr broken.1, broken.2)
    go (inr long) = inr (
      subst (λ (b : Bool). HasMoreBytesThan (if b then old.left else w.files.holds name) most)
          (sym dash) long.0,
      long.1,
    )

pub list_unread_told-for_file : (w : World) (name : List ℕ) (most : ℕ) (left : Option (List ℕ))
    (old new : Streams) → is_standard_input name ≡ false → IsKnown (w.files.holds name) left
    → OpenListIsNotRead w name most left old new → TellsListUnread w name most old new
list_unread_told-for_file w name most left old new other known told = (told.0, go told.1, told.2)
  where
    go : ((e : Error) × w.fails name e × w.files.describes e told.0)
        ⊎ (HasMoreBytesThan left most × (told.0 ≡ list_too_long_reason))
        → CannotReadList w old.left name most told.0
    go (inl broken) = inl (broken.0, inr broken.1, broken.2)
    go (inr long) = inr (
      subst (λ (b : Bool). HasMoreBytesThan (if b then old.left else w.files.holds name) most)
          (sym other)
          (too_many_bytes-of_known_list (w.files.holds name) left most known long.0),
      long.1,
    )

pub whole_text-of_standard_input : (dash : Bool) (held left after : Option (List ℕ)) (text : List ℕ)
    → dash ≡ true
    → Consumes left after text → IsAtEnd after → IsWholeText dash held left after text
whole_text-of_standard_input true held left after text is given end = (given, end)
whole_text-of_standard_input false held left after text is given end = absurd (true≢false (sym is))

pub whole_text-of_file : (dash : Bool) (held left first after : Option (List ℕ)) (text : List ℕ)
    → dash ≡ false → IsKnown held first → Consumes first after text → IsAtEnd after
    → IsWholeText dash held left left text
whole_text-of_file true held left first after text is known given end = absurd (true≢false is)
whole_text-of_file false None left first after text is known given end = (refl, None, tt, tt)
whole_text-of_file false (Some bytes) left first after text is known given end =
    (refl, after, subst (λ (l : Option (List ℕ)). Consumes l after text) known given, end)

-- ---- the lines of a text

-- One more line is checked.
pub done_so_far-next_line : (w : World) (o : Options) (input : Bool) (all : List (List ℕ))
    (old : Streams)
    (rest line after : List ℕ) (now mid : Streams) (vs : List Verdict) (v : Verdict)
    → lines_of rest ≡ line ∷ lines_of after
    → DoneSoFar (LineIsChecked w o input) all old (lines_of rest) now vs
    → LineIsChecked w o input line now mid v
    → DoneSoFar (LineIsChecked w o input) all old (lines_of after) mid (vs ++ (v ∷ []))
done_so_far-next_line w o input all old rest line after now mid vs v first sofar one =
    done_so_far-next (LineIsChecked w o input) all old line (lines_of after) now mid vs v
    (subst (λ lines. DoneSoFar (LineIsChecked w o input) all old lines now vs) first sofar) one

-- No line is left.
pub done_so_far-all_lines : (w : World) (o : Options) (input : Bool) (all : List (List ℕ))
    (old : Streams)
    (rest : List ℕ) (now : Streams) (vs : List Verdict) → rest ≡ []
    → DoneSoFar (LineIsChecked w o input) all old (lines_of rest) now vs
    → AreDoneInTurn (LineIsChecked w o input) all old now vs
done_so_far-all_lines w o input all old rest now vs none sofar = done_so_far-all
    (LineIsChecked w o input) all old now vs
    (subst (λ text. DoneSoFar (LineIsChecked w o input) all old (lines_of text) now vs) none sofar)

-- An error ended the check of the next line.
pub stopped_in_turn-at_next_line : (w : World) (o : Options) (input : Bool) (all : List (List ℕ))
    (old : Streams)
    (rest line after : List ℕ) (now new : Streams) (vs : List Verdict)
    → lines_of rest ≡ line ∷ lines_of after
    → DoneSoFar (LineIsChecked w o input) all old (lines_of rest) now vs
    → StopsInLine w o input line now new
    → IsStoppedInTurn (LineIsChecked w o input) (StopsInLine w o input) all old new
stopped_in_turn-at_next_line w o input all old rest line after now new vs first sofar begun = record {
  done = sofar.done;
  rest = line ∷ lines_of after;
  are_all = sofar.are_all ∙ ap (λ lines. sofar.done ++ lines) first;
  results = vs;
  mid = now;
  are_done = sofar.turns;
  next = begun;
}

-- ---- the check of a list

-- The streams after a list of this text was read.
pub record IsRead (w : World) (name : List ℕ) (old read : Streams) (text : List ℕ) : Type 0 where
  pub left : Option (List ℕ)
  pub at : read ≡ record old { left = left }
  pub is_text : IsWholeText (is_standard_input name) (w.files.holds name) old.left left text
  pub fits : length text ≤ 2 ^ 28

-- The seal does not hold.
pub list_checked-seal_broken : (w : World) (o : Options) (name : List ℕ) (old read new : Streams)
    (text : List ℕ) → IsRead w name old read text → (LastLineSealsText w.hashing o text → ⊥)
    → OnlyTells read new → TellsMessage w read new (broken_seal_message name)
    → ListIsCheckedBySeal w o name old new (Some false)
list_checked-seal_broken w o name old read new text r broken only told = inl (
  refl,
  inr (record {
    text = text;
    left = r.left;
    is_text = r.is_text;
    broken = broken;
    only = subst (λ (s : Streams). OnlyTells s new) r.at only;
    told = subst (λ (s : Streams). TellsMessage w s new (broken_seal_message name)) r.at told;
  }),
)

-- The seal holds, and the lines are checked. Then the last messages are told, and what is in folders
-- is looked for.
pub list_checked-seal_holds : (w : World) (o : Options) (name : List ℕ)
    (old read mid checked new : Streams)
    (text : List ℕ) (vs : List Verdict) (counts : Counts) (spacing : Spacing) (holds all : Bool)
    → IsRead w name old read text → LastLineSealsText w.hashing o text
    → AreDoneInTurn (LineIsChecked w o (is_standard_input name)) (lines_of text) read mid vs
    → CountsMatchVerdicts vs counts
    → OnlyTells mid checked
    → TellsManifestEnd w.program o name (Some counts) holds (TellsText mid checked)
    → spacing ≡ read.place.spacing
    → FoldersAreComparedIfAny w o (items_of o.folders.items)
    (entry_names_of_lines o (is_standard_input name) spacing (lines_of text)) checked new all
    → ListIsCheckedBySeal w o name old new (Some (holds && all))
list_checked-seal_holds w o name old read mid checked new text vs counts spacing holds all r sealed
    lines
    counted last told from compared = inr (record {
      holds = holds;
      checked = checked;
      judged = record {
        text = text;
        left = r.left;
        verdicts = vs;
        is_text = r.is_text;
        are_judged = record {
          end = mid;
          lines = subst
              (λ (s : Streams). AreDoneInTurn (LineIsChecked w o (is_standard_input name))
              (lines_of text) s mid vs)
              r.at lines;
          last = last;
        };
        is_result = told.0 ∙ holds_by_counts-iff_by_verdicts o.is_strict vs counts counted;
        reported = record { counts = counts; are_counted = counted; told = told.1 };
      };
      sealed = sealed;
      fits = r.fits;
      has_all = all;
      compared = subst (λ (s : Spacing). FoldersAreComparedIfAny w o (items_of o.folders.items)
          (entry_names_of_lines o (is_standard_input name) s (lines_of text)) checked new all)
          (from ∙ ap (λ (s : Streams). s.place.spacing) r.at) compared;
      is_result = refl;
    })

-- The seal holds, and the lines are checked. Then an error ended the check.
pub list_checked-stopped_after_lines : (w : World) (o : Options) (name : List ℕ)
    (old read mid new : Streams)
    (text : List ℕ) (vs : List Verdict) → IsRead w name old read text
    → LastLineSealsText w.hashing o text
    → AreDoneInTurn (LineIsChecked w o (is_standard_input name)) (lines_of text) read mid vs
    → new.held ≡ mid.held → ListIsCheckedBySeal w o name old new None
list_checked-stopped_after_lines w o name old read mid new text vs r sealed lines held = inr
    (record {
      text = text;
      left = r.left;
      is_text = r.is_text;
      sealed = sealed;
      lines = record {
        done = lines_of text;
        rest = [];
        are_all = sym (append-nil (lines_of text));
        results = vs;
        mid = mid;
        are_done = subst
            (λ (s : Streams). AreDoneInTurn (LineIsChecked w o (is_standard_input name)) (lines_of text)
            s mid vs) r.at lines;
        next = held;
      };
    })

-- The seal holds, and an error ended the check of a line.
pub list_checked-stopped_in_line : (w : World) (o : Options) (name : List ℕ)
    (old read new : Streams)
    (text : List ℕ) → IsRead w name old read text → LastLineSealsText w.hashing o text
    → IsStoppedInTurn (LineIsChecked w o (is_standard_input name))
    (StopsInLine w o (is_standard_input name)) (lines_of text) read new
    → ListIsCheckedBySeal w o name old new None
list_checked-stopped_in_line w o name old read new text r sealed stopped = inr (record {
  text = text;
  left = r.left;
  is_text = r.is_text;
  sealed = sealed;
  lines = subst (λ (s : Streams). IsStoppedInTurn (LineIsChecked w o (is_standard_input name))
      (StopsInLine w o (is_standard_input name)) (lines_of text) s new) r.at stopped;
})

-- A list that was read.
pub read_of : (w : World) (name : List ℕ) (old read : Streams) (list text : List ℕ)
    (left : Option (List ℕ)) → read ≡ record old { left = left }
    → IsWholeText (is_standard_input name) (w.files.holds name) old.left left list
    → length list ≤ 2 ^ 28
    → text ≡ list → IsRead w name old read text
read_of w name old read list text left at is fits same = record {
  left = left;
  at = at;
  is_text = subst (IsWholeText (is_standard_input name) (w.files.holds name) old.left left)
      (sym same) is;
  fits = subst (λ (t : List ℕ). length t ≤ 2 ^ 28) (sym same) fits;
}
