-- The messages at the end of a manifest that was read: how many lines had which verdict.
use Rattle.std.specs.Prelude.{◌≡◌, ◌+◌, ◌==◌, ◌&&◌, ◌||◌, nat_lt, ℕ, Bool, true, false, not}
use Rattle.std.specs.Prelude.{if◌then◌else◌, List, [], ◌++◌, codes, fold, Option, Some, None}
use Rattle.std.specs.List.{count_by}
use Rattle.b2sum_commands.specs.declared.check.Counts.{Counts}
use Rattle.b2sum_commands.specs.declared.check.Verdict.{Verdict}
use Rattle.b2sum_commands.specs.declared.check.Verdict.TheVariants.{Equal, Different, Unread}
use Rattle.b2sum_commands.specs.declared.check.Verdict.TheVariants.{Skipped, Malformed, Unmet}
use Rattle.b2sum_commands.specs.declared.check.Verdict.TheVariants.{Comment}
use Rattle.b2sum_commands.specs.declared.line_needs.Lacks.{Lacks}
use Rattle.b2sum_commands.specs.declared.options.Options.{Options}
use Rattle.b2sum_commands.specs.LineNeeds.{lacks_union, no_lacks}
use Rattle.b2sum_commands.specs.Manifests.{capped_to_64_bits, is_different, is_equal}
use Rattle.b2sum_commands.specs.Manifests.{prints_nothing}
use Rattle.b2sum_commands.specs.Messages.{BreaksOff, HasNoEntry, HaveCount, LinesNeed}
use Rattle.b2sum_commands.specs.Messages.{VerifiesNone, message, message_if}
use Rattle.b2sum_commands.specs.World.{World, Streams, TellsText}

-- ---- counts

-- The file cannot be read.
abbrev pub is_unread : Verdict → Bool
is_unread Equal = false
is_unread Different = false
is_unread Unread = true
is_unread Skipped = false
is_unread Malformed = false
is_unread (Unmet lacks) = false
is_unread Comment = false

-- The file does not exist, which is ignored.
abbrev pub is_skipped : Verdict → Bool
is_skipped Equal = false
is_skipped Different = false
is_skipped Unread = false
is_skipped Skipped = true
is_skipped Malformed = false
is_skipped (Unmet lacks) = false
is_skipped Comment = false

-- The line is not that of an entry.
abbrev pub is_malformed : Verdict → Bool
is_malformed Equal = false
is_malformed Different = false
is_malformed Unread = false
is_malformed Skipped = false
is_malformed Malformed = true
is_malformed (Unmet lacks) = false
is_malformed Comment = false

-- The line needs other options.
abbrev pub has_unmet_needs : Verdict → Bool
has_unmet_needs Equal = false
has_unmet_needs Different = false
has_unmet_needs Unread = false
has_unmet_needs Skipped = false
has_unmet_needs Malformed = false
has_unmet_needs (Unmet lacks) = true
has_unmet_needs Comment = false

-- What lines lack, with one more that has this verdict.
abbrev pub lacks_with_verdict : Lacks → Verdict → Lacks
lacks_with_verdict l Equal = l
lacks_with_verdict l Different = l
lacks_with_verdict l Unread = l
lacks_with_verdict l Skipped = l
lacks_with_verdict l Malformed = l
lacks_with_verdict l (Unmet lacks) = lacks_union l lacks
lacks_with_verdict l Comment = l

-- The counts are those of verdicts.
pub record CountsMatchVerdicts (vs : List Verdict) (counts : Counts) : Type 0 where
  pub equal : counts.equal ≡ capped_to_64_bits (count_by is_equal vs)
  pub different : counts.different ≡ capped_to_64_bits (count_by is_different vs)
  pub unread : counts.unread ≡ capped_to_64_bits (count_by is_unread vs)
  pub skipped : counts.skipped ≡ capped_to_64_bits (count_by is_skipped vs)
  pub malformed : counts.malformed ≡ capped_to_64_bits (count_by is_malformed vs)
  pub unmet : counts.unmet ≡ capped_to_64_bits (count_by has_unmet_needs vs)
  pub lacks : counts.lacks ≡ fold lacks_with_verdict no_lacks vs

-- A count with one more, if that is of its kind.
abbrev pub incremented_if : Bool → ℕ → ℕ
incremented_if true n = capped_to_64_bits (n + 1)
incremented_if false n = n

-- The counts with one more verdict.
pub record CountsAddVerdict (v : Verdict) (old new : Counts) : Type 0 where
  pub equal : new.equal ≡ incremented_if (is_equal v) old.equal
  pub different : new.different ≡ incremented_if (is_different v) old.different
  pub unread : new.unread ≡ incremented_if (is_unread v) old.unread
  pub skipped : new.skipped ≡ incremented_if (is_skipped v) old.skipped
  pub malformed : new.malformed ≡ incremented_if (is_malformed v) old.malformed
  pub unmet : new.unmet ≡ incremented_if (has_unmet_needs v) old.unmet
  pub lacks : new.lacks ≡ lacks_with_verdict old.lacks v

-- A manifest holds by its counts: a file has its digest, and no line fails the check.
abbrev pub manifest_holds_by_counts : Bool → Counts → Bool
manifest_holds_by_counts strict c =
    nat_lt 0 c.equal
    && (((c.different == 0) && ((c.unread == 0) && (c.unmet == 0)))
    && (not strict || (c.malformed == 0)))

-- ---- messages

-- The warning of a count, with a text for one and a text for several. None is no warning.
abbrev pub count_line : List ℕ → ℕ → List ℕ → List ℕ → List ℕ
count_line program n one several =
    message_if (not (n == 0)) program (HaveCount n one several)

-- No line is that of an entry.
abbrev pub has_no_entry : Counts → Bool
has_no_entry c =
    (c.equal == 0)
    && ((c.different == 0) && ((c.unread == 0) && ((c.skipped == 0) && (c.unmet == 0))))

-- The warnings of the counts.
abbrev pub count_warnings : List ℕ → Counts → List ℕ
count_warnings program c =
    count_line program c.malformed (codes " line is improperly formatted")
    (codes " lines are improperly formatted")
    ++ (count_line program c.unmet (codes " line needs other options")
    (codes " lines need other options")
    ++ (count_line program c.unread (codes " listed file could not be read")
    (codes " listed files could not be read")
    ++ count_line program c.different (codes " computed checksum did NOT match")
    (codes " computed checksums did NOT match")))

-- The messages at the end of a manifest of this name.
abbrev pub report_text : List ℕ → List ℕ → Options → Counts → List ℕ
report_text program name o c =
    if has_no_entry c then message program (HasNoEntry name)
    else if prints_nothing o.report then []
    else message_if (not (c.unmet == 0)) program (LinesNeed name c.lacks)
    ++ (count_warnings program c
    ++ message_if (o.ignores_missing && (c.equal == 0)) program (VerifiesNone name))

-- The last messages of a manifest of this name are told, which holds or not: those of its counts,
-- or, if there are none, that a read failed.
abbrev pub TellsManifestEnd : List ℕ → Options → List ℕ → Option Counts → Bool → (List ℕ → Type 0)
    → Type 0
TellsManifestEnd program o name None holds told =
    (holds ≡ false) × told (message program (BreaksOff name))
TellsManifestEnd program o name (Some c) holds told =
    (holds ≡ manifest_holds_by_counts o.is_strict c) × told (report_text program name o c)

-- The messages of a manifest of this name, whose lines had these verdicts, are printed.
pub record ReportIsPrinted (w : World) (o : Options) (name : List ℕ) (vs : List Verdict)
    (old new : Streams) : Type 0 where
  pub counts : Counts
  pub are_counted : CountsMatchVerdicts vs counts
  pub told : TellsText old new (report_text w.program name o counts)
