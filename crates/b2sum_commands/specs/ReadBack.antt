-- What a check reads of a manifest that was printed.
use Rattle.std.specs.Prelude.{◌≡◌, ◌≢◌, ◌&&◌, ◌||◌, ◌==◌, ◌<◌, ◌≤◌, ℕ, Bool, false, true, not, List}
use Rattle.std.specs.Prelude.{[], ◌∷◌, map, length, Option, Some, None, is_some, Result, Ok}
use Rattle.std.specs.Io.KnownBytes.{Appends}
use Rattle.std.specs.List.{All, list_all}
use Rattle.hex.specs.Hex.{IsBytes}
use Rattle.text_lines.specs.Cuts.{lines_of}
use Rattle.b2sum_lines.specs.ManifestLines.{Line, max_bytes, is_tree, is_tagged, has_zero}
use Rattle.b2sum_lines.specs.ManifestLines.{HasValidLeafLength}
use Rattle.b2sum_lines.specs.declared.entry.Spacing.{Spacing}
use Rattle.b2sum_lines.specs.declared.entry.Spacing.TheVariants.{One}
use Rattle.b2sum_lines.specs.declared.entry.Style.TheVariants.{Bare}
use Rattle.b2sum_commands.specs.declared.check.Verdict.{Verdict}
use Rattle.b2sum_commands.specs.declared.check.Verdict.TheVariants.{Equal, Different, Unread}
use Rattle.b2sum_commands.specs.declared.check.Verdict.TheVariants.{Skipped, Malformed, Unmet}
use Rattle.b2sum_commands.specs.declared.check.Verdict.TheVariants.{Comment}
use Rattle.b2sum_commands.specs.declared.hashes.Function.{Function}
use Rattle.b2sum_commands.specs.declared.options.Options.{Options}
use Rattle.b2sum_commands.specs.LineNeeds.{matches_tagged_needs, algorithm_is_allowed}
use Rattle.b2sum_commands.specs.Messages.{is_standard_input}
use Rattle.b2sum_commands.specs.World.{Streams, World, AreDoneInTurn}
use Rattle.b2sum_commands.specs.PrintedSums.{SourceHasText, DigestLineIsPrinted, entry_of}
use Rattle.b2sum_commands.specs.PrintedSums.{printed_function}
use Rattle.b2sum_commands.specs.Manifests.{item, spacing_after_line, LineIsChecked}

-- What a check reads of lines, one after the other.
abbrev pub items : Options → Bool → Spacing → List (List ℕ) → List (Option (Result Line Verdict))
items c input s [] = []
items c input s (line ∷ lines) =
    item c input s line ∷ items c input (spacing_after_line s (item c input s line)) lines

-- The lines are read as these entries, in this order, and as nothing else.
abbrev pub LinesAreReadAsEntries : Options → Bool → Spacing → List (List ℕ) → List Line → Type 0
LinesAreReadAsEntries c input s lines entries = items c input s lines
    ≡ map (λ e. Some (Ok e)) entries

-- The entry of a file: its name, and the digest of all its text. A file that cannot be read has
-- none.
abbrev pub IsEntryOfFile : World → Options → List ℕ → Streams → Streams → Option Line → Type 0
IsEntryOfFile w o name old new (Some e) =
    (text : List ℕ)
    × SourceHasText (is_standard_input name) (w.files.holds name) old.left new.left text
    × (e ≡ entry_of w o name text)
IsEntryOfFile w o name old new None = DigestLineIsPrinted w o name old new (Some false)

-- The entries of the files that have one.
abbrev pub present_entries : List (Option Line) → List Line
present_entries [] = []
present_entries (None ∷ found) = present_entries found
present_entries (Some e ∷ found) = e ∷ present_entries found

-- The options are those of lines that can be read: digests of a length that the algorithm has and
-- the hash function returns, a tag for the root of a tree, and a style that is printed.
pub record OptionsAreReadable (w : World) (o : Options) : Type 0 where
  pub some_digest : 0 < o.bytes
  pub fits : o.bytes ≤ max_bytes o.algorithm
  pub digests : (text : List ℕ) → IsBytes (w.hashing.digest o (printed_function o) text)
      × (length (w.hashing.digest o (printed_function o) text) ≡ o.bytes)
  pub has_leaf : HasValidLeafLength o.algorithm
  pub tagged : is_tree o.algorithm ≡ true → is_tagged o.style ≡ true
  pub marked : o.style ≢ Bare

-- A check by the options `c` accepts digests that were printed by the options `o`: it has what they
-- need, is of their algorithm if no tag names it, and demands no other length and algorithm.
pub record AcceptsPrinted (c o : Options) : Type 0 where
  pub algorithm : is_tagged o.style ≡ false → c.algorithm ≡ o.algorithm
  pub length : (not c.demands_length || (o.bytes == c.bytes)) ≡ true
  pub needs : matches_tagged_needs c o.style ≡ true
  pub keyed : algorithm_is_allowed c o.algorithm ≡ true

-- Files can have these names: they are not empty, and no byte is zero. If standard input has the
-- manifest, or had the key, none is that.
abbrev pub AreFileNames : Bool → List (List ℕ) → Type 0
AreFileNames input names = All (λ name. (0 < length name) × (has_zero name ≡ false)
    × ((input && is_standard_input name) ≡ false)) names

-- A check by the options `c` computes the digests of the options `o`: it has their key, salt and
-- persona.
abbrev pub HaveSameDigests : World → Options → Options → Type 0
HaveSameDigests w c o =
    (f : Function) (text : List ℕ) → w.hashing.digest c f text ≡ w.hashing.digest o f text

-- Files whose bytes are known, and so are the same each time that they are read. None is standard
-- input.
abbrev pub FilesHaveKnownBytes : World → List (List ℕ) → Type 0
FilesHaveKnownBytes w names =
    All (λ name. (is_standard_input name ≡ false) × (is_some (w.files.holds name) ≡ true)) names

-- The verdict is that a file has its digest, or was not read.
abbrev pub is_equal_or_unread : Verdict → Bool
is_equal_or_unread Equal = true
is_equal_or_unread Different = false
is_equal_or_unread Unread = true
is_equal_or_unread Skipped = true
is_equal_or_unread Malformed = false
is_equal_or_unread (Unmet lacks) = false
is_equal_or_unread Comment = false

-- A manifest is printed for these names: one entry for each file that was read, in order. A check
-- of what was printed reads these entries, whatever it has read before, unless that had one space.
-- It finds no file changed that is the same as before.
pub record ManifestIsPrinted (w : World) (o : Options) (names : List (List ℕ)) (old new : Streams)
    (are_read : Bool) : Type 0 where
  pub found : List (Option Line)
  pub are_entries : AreDoneInTurn (IsEntryOfFile w o) names old new found
  pub all : are_read ≡ list_all is_some found
  pub text : List ℕ
  pub printed : Appends old.held new.held text
  pub read_back : (c : Options) (input : Bool) (s : Spacing) → OptionsAreReadable w o
      → AcceptsPrinted c o
      → AreFileNames (input || c.input_is_key) names → s ≢ One
      → LinesAreReadAsEntries c input s (lines_of text) (present_entries found)
  pub kept : (c : Options) (input : Bool) (before after : Streams) (verdicts : List Verdict)
      → OptionsAreReadable w o → AcceptsPrinted c o → HaveSameDigests w c o
      → AreFileNames (input || c.input_is_key) names → FilesHaveKnownBytes w names
      → before.place.spacing ≢ One
      → AreDoneInTurn (LineIsChecked w c input) (lines_of text) before after verdicts
      → (list_all is_equal_or_unread verdicts ≡ true)
      × (length verdicts ≡ length (present_entries found))
