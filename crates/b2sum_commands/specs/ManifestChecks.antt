-- What the check of a manifest returns and prints.
use Rattle.std.specs.Prelude.{◌≡◌, ◌⊎◌, ℕ, Bool, true, false, List, ⊤}
use Rattle.std.specs.Prelude.{Option, Some, None, Result, Ok, Err, ◌++◌, if◌then◌else◌}
use Rattle.std.specs.Io.KnownBytes.{Consumes, IsAtEnd}
use Rattle.std.specs.declared.io.Error.{Error}
use Rattle.text_lines.specs.Cuts.{lines_of}
use Rattle.b2sum_lines.specs.EntryViews.{entry_value}
use Rattle.b2sum_lines.specs.ManifestLines.{Line}
use Rattle.b2sum_lines.specs.declared.entry.Entry.{Entry}
use Rattle.b2sum_commands.specs.declared.check.Counts.{Counts}
use Rattle.b2sum_commands.specs.declared.check.Item.{Item}
use Rattle.b2sum_commands.specs.declared.check.Item.TheVariants.{Comment, Listed, Malformed, Unmet}
use Rattle.b2sum_commands.specs.declared.check.Verdict.{Verdict}
use Rattle.b2sum_commands.specs.declared.check.Verdict.TheVariants as verdict
use Rattle.b2sum_commands.specs.declared.options.Options.{Options}
use Rattle.b2sum_commands.specs.Messages.{BreaksOff, Cannot, is_standard_input}
use Rattle.b2sum_commands.specs.World.{World, Streams, AreDoneInTurn, IsStoppedInTurn, OnlyTells}
use Rattle.b2sum_commands.specs.World.{TellsMessage}
use Rattle.b2sum_commands.specs.PrintedSums.{KeepsInputUnlessRead}
use Rattle.b2sum_commands.specs.Manifests.{LineIsChecked, StopsInLine, initial_place}
use Rattle.b2sum_commands.specs.Manifests.{manifest_holds_by_verdicts}
use Rattle.b2sum_commands.specs.Reports.{CountsMatchVerdicts, ReportIsPrinted}

-- What a line is, as `item` has it.
abbrev pub item_value : Item → Option (Result Line Verdict)
item_value Comment = None
item_value (Listed e) = Some (Ok (entry_value e))
item_value Malformed = Some (Err verdict.Malformed)
item_value (Unmet lacks) = Some (Err (verdict.Unmet lacks))

-- Whether the entry of this line has the property. A line without an entry has it.
abbrev pub IfItemIsEntry : Item → (Entry → Type 0) → Type 0
IfItemIsEntry Comment holds = ⊤
IfItemIsEntry (Listed e) holds = holds e
IfItemIsEntry Malformed holds = ⊤
IfItemIsEntry (Unmet lacks) holds = ⊤

-- The text of a manifest is all that standard input or a file returned.
abbrev pub IsWholeText : Bool → Option (List ℕ) → Option (List ℕ) → Option (List ℕ) → List ℕ
    → Type 0
IsWholeText true held left after text = Consumes left after text × IsAtEnd after
IsWholeText false held left after text =
    (after ≡ left) × (end : Option (List ℕ)) × Consumes held end text × IsAtEnd end

-- The text is a beginning of what standard input or a file returned.
abbrev pub IsPrefixOfSource : Bool → Option (List ℕ) → Option (List ℕ) → List ℕ → Type 0
IsPrefixOfSource true held left text = (rest : Option (List ℕ)) × Consumes left rest text
IsPrefixOfSource false held left text = (rest : Option (List ℕ)) × Consumes held rest text

-- Streams of which this is left of standard input, if the manifest is that.
abbrev pub with_input_read_to : Bool → Option (List ℕ) → Streams → Streams
with_input_read_to input left s = record s { left = if input then left else s.left }

-- The lines of what a manifest returned are checked, with these verdicts. Before that, it had
-- `before` left, and after that, `rest`. No entry of a manifest on standard input reads that, so
-- all of it may be read before any of them.
pub record LinesAreReadAndChecked (w : World) (o : Options) (input : Bool)
    (before rest : Option (List ℕ))
    (old new : Streams) (verdicts : List Verdict) : Type 0 where
  pub text : List ℕ
  pub passed : Consumes before rest text
  pub lines : AreDoneInTurn (LineIsChecked w o input) (lines_of text)
      (with_input_read_to input new.left old) new verdicts

-- A manifest is at its end, and the counts are those of the verdicts. There are none if a read
-- failed, and then what is left is not known.
abbrev pub CountsAtEnd : Option Counts → List Verdict → Option (List ℕ) → Option (List ℕ) → Type 0
    → Type 0
CountsAtEnd None vs rest left failed = failed
CountsAtEnd (Some counts) vs rest left failed =
    CountsMatchVerdicts vs counts × (rest ≡ left) × IsAtEnd left

-- The lines of a text are checked one after the other, with these verdicts, and then only messages
-- are told. `input` says that the text is standard input, up to where `old` is.
pub record TextLinesAreChecked (w : World) (o : Options) (input : Bool) (text : List ℕ)
    (old new : Streams) (verdicts : List Verdict) : Type 0 where
  pub end : Streams
  pub lines : AreDoneInTurn (LineIsChecked w o input) (lines_of text) old end verdicts
  pub last : OnlyTells end new

-- A manifest that was read is checked by the options, with this result: whether it holds. The last
-- messages are those of its counts.
pub record WholeManifestIsChecked (w : World) (o : Options) (name : List ℕ) (old new : Streams)
    (result : Bool)
    : Type 0 where
  pub text : List ℕ
  pub left : Option (List ℕ)
  pub verdicts : List Verdict
  pub is_text : IsWholeText (is_standard_input name) (w.files.holds name) old.left left text
  pub are_judged :
      TextLinesAreChecked w o (is_standard_input name) text (record old { left = left }) new
      verdicts
  pub is_result : result ≡ manifest_holds_by_verdicts o.is_strict verdicts
  pub reported : ReportIsPrinted w o name verdicts are_judged.end new

-- A message says why the manifest of this name cannot be opened.
abbrev pub TellsOpenFailure : World → List ℕ → Streams → Streams → Type 0
TellsOpenFailure w name old new = (is_standard_input name ≡ false) × (e : Error)
    × w.files.refuses name e × (reason : List ℕ) × w.files.describes e reason
    × TellsMessage w old new (Cannot name reason)

-- A message says why a manifest was not read to its end: it cannot be opened, or a read failed.
abbrev pub TellsManifestCutShort : World → List ℕ → Streams → Streams → Type 0
TellsManifestCutShort w name old new =
    TellsOpenFailure w name old new ⊎ (w.breaks name × TellsMessage w old new (BreaksOff name))

-- A manifest was not read to its end, as the last message says. Then the lines of its beginning are
-- checked.
pub record ManifestIsCutShort (w : World) (o : Options) (name : List ℕ) (old new : Streams) : Type 0
  where
    pub text : List ℕ
    pub left : Option (List ℕ)
    pub verdicts : List Verdict
    pub begins : IsPrefixOfSource (is_standard_input name) (w.files.holds name) old.left text
    pub are_judged :
        TextLinesAreChecked w o (is_standard_input name) text (record old { left = left }) new
        verdicts
    pub told : TellsManifestCutShort w name are_judged.end new

-- The lines of a text are whole: they stay the same, whatever comes after it.
abbrev pub EndsAtLineBoundary : List ℕ → Type 0
EndsAtLineBoundary text = (more : List ℕ) → lines_of (text ++ more) ≡ lines_of text ++ lines_of more

-- An error ended the check of a manifest, which had `before` left, one line after the other. These
-- are whole lines, unless it was read to its end, or a read failed.
pub record ManifestCheckIsStopped (w : World) (o : Options) (name : List ℕ) (input : Bool)
    (before : Option (List ℕ)) (old new : Streams) : Type 0 where
  pub text : List ℕ
  pub rest : Option (List ℕ)
  pub passed : Consumes before rest text
  pub whole : EndsAtLineBoundary text ⊎ (IsAtEnd rest ⊎ w.breaks name)
  pub left : Option (List ℕ)
  pub leaves : KeepsInputUnlessRead input old.left left
  pub lines : IsStoppedInTurn (LineIsChecked w o input) (StopsInLine w o input) (lines_of text)
      (record old { left = left }) new

-- What the manifest of this name has: what is left of standard input for `-`.
abbrev pub manifest_bytes : World → Option (List ℕ) → List ℕ → Option (List ℕ)
manifest_bytes w left name = if is_standard_input name then left else w.files.holds name

-- The manifest of this name is checked from here on, or it was not read to its end, and does not
-- hold. If there is no result, an error ended the check.
abbrev pub ManifestIsCheckedFromHere : World → Options → List ℕ → Streams → Streams → Option Bool
    → Type 0
ManifestIsCheckedFromHere w o name old new (Some result) =
    ((result ≡ false) × ManifestIsCutShort w o name old new)
    ⊎ WholeManifestIsChecked w o name old new result
ManifestIsCheckedFromHere w o name old new None =
    ManifestCheckIsStopped w o name (is_standard_input name) (manifest_bytes w old.left name) old
    new

-- The manifest of this name is checked. Which spacing its lines have, and their numbers, do not
-- depend on other manifests.
abbrev pub ManifestIsChecked : World → Options → List ℕ → Streams → Streams → Option Bool → Type 0
ManifestIsChecked w o name old new end =
    ManifestIsCheckedFromHere w o name (record old { place = initial_place o name }) new end
