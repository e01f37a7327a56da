-- The check of a manifest: its lines, what becomes of each, and when it holds.
use Rattle.std.specs.Prelude.{◌≡◌, ◌≢◌, ℕ, ◌+◌, ◌-◌, ◌^◌, ◌==◌, ◌&&◌, ◌||◌, min, Bool, true}
use Rattle.std.specs.Prelude.{false, not, if◌then◌else◌, List, [], ◌∷◌, ◌++◌, length, take, get_or}
use Rattle.std.specs.Prelude.{codes, Option, Some, None, Result, Ok, Err, ◌⊎◌}
use Rattle.std.specs.Io.KnownBytes.{Appends}
use Rattle.hex.specs.Hex.{encode_lower}
use Rattle.std.specs.List.{list_any, list_all}
use Rattle.std.specs.declared.io.Error.{Error}
use Rattle.std.specs.Option.{option_map}
use Rattle.blake2_streams.specs.Streams.{AcceptsProperPrefix}
use Rattle.b2sum_lines.specs.ManifestLines.{Line, escaped, line_entry}
use Rattle.b2sum_lines.specs.declared.entry.Spacing.{Spacing}
use Rattle.b2sum_lines.specs.declared.entry.Spacing.TheVariants.{Open, Two, One}
use Rattle.b2sum_lines.specs.declared.entry.Style.{Style}
use Rattle.b2sum_lines.specs.declared.entry.Style.TheVariants.{Tagged, Text, Binary, Bare}
use Rattle.b2sum_commands.specs.declared.check.Verdict.{Verdict}
use Rattle.b2sum_commands.specs.declared.check.Verdict.TheVariants.{Equal, Different, Unread}
use Rattle.b2sum_commands.specs.declared.check.Verdict.TheVariants.{Skipped, Malformed, Unmet}
use Rattle.b2sum_commands.specs.declared.check.Verdict.TheVariants.{Comment}
use Rattle.b2sum_commands.specs.declared.hashes.Function.{Function}
use Rattle.b2sum_commands.specs.declared.line_needs.Lacks.{Lacks}
use Rattle.b2sum_commands.specs.declared.options.Options.{Options}
use Rattle.b2sum_commands.specs.declared.options.Report.{Report}
use Rattle.b2sum_commands.specs.declared.options.Report.TheVariants.{Each, Warnings, Failures}
use Rattle.b2sum_commands.specs.declared.options.Report.TheVariants.{Nothing}
use Rattle.b2sum_commands.specs.LineNeeds.{lacks_of, meets}
use Rattle.b2sum_commands.specs.Messages.{Foreign, Improper, LineNeeds, Message}
use Rattle.b2sum_commands.specs.Messages.{is_standard_input, message_if}
use Rattle.b2sum_commands.specs.OtherHashes.{is_line_of_other_hash}
use Rattle.b2sum_commands.specs.World.{Place, Streams, World, TellsText}
use Rattle.b2sum_commands.specs.PrintedSums.{SourceHasText, KeepsInputUnlessRead, CannotDigestFile}
use Rattle.b2sum_commands.specs.PrintedSums.{FileIsMissing}
use Rattle.b2sum_commands.specs.PrintedSums.{TellsWhyNoDigest}

-- ---- lines

-- A line without a carriage return at its end.
abbrev pub without_carriage_return : List ℕ → List ℕ
without_carriage_return line =
    if get_or line (length line - 1) 0 == 13 then take (length line - 1) line else line

-- A line that is not empty.
abbrev pub if_not_empty : List ℕ → Option (List ℕ)
if_not_empty [] = None
if_not_empty (b ∷ line) = Some (b ∷ line)

-- What is read of a line: nothing of a comment and of an empty line.
abbrev pub line_content_unless_comment : List ℕ → Option (List ℕ)
line_content_unless_comment [] = None
line_content_unless_comment (b ∷ line) = if b == 35 then None else if_not_empty
    (without_carriage_return (b ∷ line))

-- The entry of a line that can be checked, or the verdict on a line that cannot. Standard input
-- that has the manifest, or had the key, is no file.
abbrev pub checkable : Options → Bool → Option Line → Result Line Verdict
checkable o input None = Err Malformed
checkable o input (Some e) =
    if (input || o.input_is_key) && is_standard_input e.name then Err Malformed
    else if meets o e then Ok e else Err (Unmet (lacks_of o e))

-- The hash function of an entry: the algorithm, and the length of the digest.
abbrev pub function_of_line_entry : Line → Function
function_of_line_entry e = record { algorithm = e.algorithm; bytes = length e.digest }

-- What a line is: none for a comment, and else its entry, or the verdict if that cannot be checked.
abbrev pub item : Options → Bool → Spacing → List ℕ → Option (Result Line Verdict)
item o input s line =
    option_map (λ body. checkable o input (line_entry o.algorithm s body))
    (line_content_unless_comment line)

-- The spacing after an entry of this style.
abbrev pub spacing_after_entry : Spacing → Style → Spacing
spacing_after_entry s (Tagged needs) = s
spacing_after_entry s Text = Two
spacing_after_entry s Binary = Two
spacing_after_entry s Bare = One

-- The spacing after a line, of which this is read.
abbrev pub spacing_after_line : Spacing → Option (Result Line Verdict) → Spacing
spacing_after_line s None = s
spacing_after_line s (Some (Err v)) = s
spacing_after_line s (Some (Ok e)) = spacing_after_entry s e.style

-- A number as 64 bits count it, which stop at the greatest.
abbrev pub capped_to_64_bits : ℕ → ℕ
capped_to_64_bits n = min n (2 ^ 64 - 1)

-- The place after one more line, of which this is read.
abbrev pub next_place : Place → Option (Result Line Verdict) → Place
next_place p i = record p {
  spacing = spacing_after_line p.spacing i;
  number = capped_to_64_bits (p.number + 1);
}

-- The place at which the manifest of this name begins. Its spacing is any, but under a key only
-- that of two bytes.
abbrev pub initial_place : Options → List ℕ → Place
initial_place o name =
    record { name = name; spacing = if o.needs.key then Two else Open; number = 0 }

-- ---- verdicts

-- The verdict on an entry, or on a line that cannot be checked, is right: the digest of the text
-- that the source returned is that of the entry, or it is `found`, which is another, or there is a
-- cause. Only a file that is not there is skipped, and only if the options say so.
abbrev pub VerdictIsRight : World → Options → Option (List ℕ) → Result Line Verdict → Verdict
    → List ℕ
    → Option (List ℕ) → Type 0
VerdictIsRight w o left (Err verdict) v found after = (v ≡ verdict) × (after ≡ left)
VerdictIsRight w o left (Ok e) Equal found after =
    (text : List ℕ)
    × SourceHasText (is_standard_input e.name) (w.files.holds e.name) left after text
    × (w.hashing.digest o (function_of_line_entry e) text ≡ e.digest)
VerdictIsRight w o left (Ok e) Different found after =
    (text : List ℕ)
    × SourceHasText (is_standard_input e.name) (w.files.holds e.name) left after text
    × (found ≡ w.hashing.digest o (function_of_line_entry e) text) × (found ≢ e.digest)
VerdictIsRight w o left (Ok e) Unread found after =
    KeepsInputUnlessRead (is_standard_input e.name) left after
    × (x : Error) × CannotDigestFile w o (function_of_line_entry e) e.name x
VerdictIsRight w o left (Ok e) Skipped found after =
    (o.ignores_missing ≡ true) × (is_standard_input e.name ≡ false) × (after ≡ left)
    × FileIsMissing w.files e.name
VerdictIsRight w o left (Ok e) Malformed found after = ⊥
VerdictIsRight w o left (Ok e) (Unmet lacks) found after = ⊥
VerdictIsRight w o left (Ok e) Comment found after = ⊥

-- The line does not need other options.
abbrev pub NeedsNoOtherOptions : Verdict → Type 0
NeedsNoOtherOptions v = (lacks : Lacks) → v ≢ Unmet lacks

-- ---- when a manifest holds

-- The file has the digest.
abbrev pub is_equal : Verdict → Bool
is_equal Equal = true
is_equal Different = false
is_equal Unread = false
is_equal Skipped = false
is_equal Malformed = false
is_equal (Unmet lacks) = false
is_equal Comment = false

-- The file has another digest.
abbrev pub is_different : Verdict → Bool
is_different Equal = false
is_different Different = true
is_different Unread = false
is_different Skipped = false
is_different Malformed = false
is_different (Unmet lacks) = false
is_different Comment = false

-- The verdict does not fail a check that is not strict.
abbrev pub passes_lenient_check : Verdict → Bool
passes_lenient_check Equal = true
passes_lenient_check Different = false
passes_lenient_check Unread = false
passes_lenient_check Skipped = true
passes_lenient_check Malformed = true
passes_lenient_check (Unmet lacks) = false
passes_lenient_check Comment = true

-- The line is that of an entry.
abbrev pub is_well_formed : Verdict → Bool
is_well_formed Equal = true
is_well_formed Different = true
is_well_formed Unread = true
is_well_formed Skipped = true
is_well_formed Malformed = false
is_well_formed (Unmet lacks) = true
is_well_formed Comment = true

-- A manifest holds: a file has its digest, none has another or cannot be read, no line needs other
-- options, and if the check is strict, no line is malformed.
abbrev pub manifest_holds_by_verdicts : Bool → List Verdict → Bool
manifest_holds_by_verdicts strict vs =
    list_any is_equal vs
    && (list_all passes_lenient_check vs && (not strict || list_all is_well_formed vs))

-- ---- what is printed

-- What is printed after a name: nothing if there is no line.
abbrev pub outcome : Report → Verdict → List ℕ
outcome Nothing v = []
outcome Each Equal = codes ": OK\n"
outcome Warnings Equal = codes ": OK\n"
outcome Failures Equal = []
outcome Each Different = codes ": FAILED\n"
outcome Warnings Different = codes ": FAILED\n"
outcome Failures Different = codes ": FAILED\n"
outcome Each Unread = codes ": FAILED open or read\n"
outcome Warnings Unread = codes ": FAILED open or read\n"
outcome Failures Unread = codes ": FAILED open or read\n"
outcome r Skipped = []
outcome r Malformed = []
outcome r (Unmet lacks) = []
outcome r Comment = []

-- The digests of a file that has another one than its entry, a line each.
abbrev pub digest_lines : List ℕ → List ℕ → List ℕ
digest_lines listed found =
    codes "  expected: " ++ encode_lower listed ++ (10 ∷ [])
    ++ codes "  found:    " ++ encode_lower found ++ (10 ∷ [])

-- Nothing is printed of files.
abbrev pub prints_nothing : Report → Bool
prints_nothing Each = false
prints_nothing Warnings = false
prints_nothing Failures = false
prints_nothing Nothing = true

-- Lines that are not properly formatted, or need other options, have messages.
abbrev pub warns_of_bad_lines : Report → Bool
warns_of_bad_lines Each = false
warns_of_bad_lines Warnings = true
warns_of_bad_lines Failures = false
warns_of_bad_lines Nothing = false

-- The digests are printed after a verdict: the file has another one, and its line is printed.
abbrev pub digests_are_shown : Options → Verdict → Bool
digests_are_shown o v = o.shows_digests && (is_different v && not (prints_nothing o.report))

-- What is printed after the name of an entry of this digest, whose file has the digest `found`.
abbrev pub full_outcome : Options → Verdict → List ℕ → List ℕ → List ℕ
full_outcome o v listed found =
    outcome o.report v ++ (if digests_are_shown o v then digest_lines listed found else [])

-- A name as it is printed, escaped if it has a newline.
abbrev pub printed_name : List ℕ → List ℕ
printed_name name = if list_any (λ b. b == 10) name then 92 ∷ escaped name else name

-- A name and what is printed after it, or nothing.
abbrev pub name_with_outcome : List ℕ → List ℕ → List ℕ
name_with_outcome name [] = []
name_with_outcome name (b ∷ text) = printed_name name ++ (b ∷ text)

-- The lines of an entry with this verdict, whose file has the digest `found`. A line that cannot be
-- checked has none.
abbrev pub verdict_lines : Options → Result Line Verdict → Verdict → List ℕ → List ℕ
verdict_lines o (Err verdict) v found = []
verdict_lines o (Ok e) v found = name_with_outcome e.name (full_outcome o v e.digest found)

-- The verdict has no message of its own.
abbrev pub has_no_message : Verdict → Bool
has_no_message Equal = true
has_no_message Different = true
has_no_message Unread = false
has_no_message Skipped = true
has_no_message Malformed = false
has_no_message (Unmet lacks) = false
has_no_message Comment = true

-- A sink accepted this much of the lines of a verdict that is right.
abbrev pub VerdictLinesAreAccepted : (Option (List ℕ) → Option (List ℕ) → List ℕ → Type 0) → World
    → Options
    → Result Line Verdict → Streams → Streams → Verdict → Type 0
VerdictLinesAreAccepted accepts w o i old new v =
    (found : List ℕ) × VerdictIsRight w o old.left i v found new.left
    × accepts old.held new.held (verdict_lines o i v found)

-- A message says why the file of an entry has no digest.
abbrev pub TellsWhyUnread : World → Options → Result Line Verdict → Streams → Streams → Type 0
TellsWhyUnread w o (Err verdict) old new = ⊥
TellsWhyUnread w o (Ok e) old new = TellsWhyNoDigest w o (function_of_line_entry e) e.name old new

-- What is said of a line that is not that of an entry, the one of this number.
abbrev pub bad_line_message : Options → List ℕ → ℕ → List ℕ → Message
bad_line_message o name number line =
    if is_line_of_other_hash line then Foreign name number else Improper name number o.algorithm

-- What is told of a line with this verdict: why its file cannot be read, or, if the options warn of
-- lines, that it is not properly formatted, is of another hash function, or needs other options.
-- Otherwise it is nothing.
abbrev pub TellsVerdict : World → Options → List ℕ → Result Line Verdict → Streams → Streams
    → Verdict → Type 0
TellsVerdict w o line i old new v = (v ≡ Unread → TellsWhyUnread w o i old new)
    × (v ≡ Malformed → TellsText old new
    (message_if (warns_of_bad_lines o.report) w.program
    (bad_line_message o new.place.name new.place.number line)))
    × ((lacks : Lacks) → v ≡ Unmet lacks
    → TellsText old new (message_if (warns_of_bad_lines o.report)
    w.program (LineNeeds new.place.name new.place.number lacks)))
    × (has_no_message v ≡ true → new.told ≡ old.told)

-- A line is checked: its entry has a verdict, or the line has one that cannot be checked, and the
-- lines of that are printed.
abbrev pub ItemIsChecked : World → Options → List ℕ → Option (Result Line Verdict) → Streams
    → Streams
    → Verdict → Type 0
ItemIsChecked w o line None old new v =
    (v ≡ Comment) × (new ≡ record old { place = next_place old.place None })
ItemIsChecked w o line (Some i) old new v = (new.place ≡ next_place old.place (Some i))
    × VerdictLinesAreAccepted Appends w o i old new v × TellsVerdict w o line i old new v

-- A line of a manifest is checked. `input` says that the manifest is standard input.
abbrev pub LineIsChecked : World → Options → Bool → List ℕ → Streams → Streams → Verdict → Type 0
LineIsChecked w o input line old new v =
    ItemIsChecked w o line (item o input old.place.spacing line) old new v

-- Nothing is printed for an entry, or a part of the lines of a verdict that is right.
abbrev pub StopsInVerdict : World → Options → Result Line Verdict → Streams → Streams → Type 0
StopsInVerdict w o i old new = (new.held ≡ old.held)
    ⊎ ((v : Verdict) × VerdictLinesAreAccepted AcceptsProperPrefix w o i old new v)

-- An error ended the check of a line.
abbrev pub StopsInItem : World → Options → Option (Result Line Verdict) → Streams → Streams → Type 0
StopsInItem w o None old new = new.held ≡ old.held
StopsInItem w o (Some i) old new = StopsInVerdict w o i old new

-- An error ended the check of a line of a manifest.
abbrev pub StopsInLine : World → Options → Bool → List ℕ → Streams → Streams → Type 0
StopsInLine w o input line old new = StopsInItem w o (item o input old.place.spacing line) old new
