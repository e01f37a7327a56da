-- Lists that are sealed: what their last line is, what is printed, and what a check does.
use Rattle.std.specs.Prelude.{◌≡◌, ◌⊎◌, ℕ, ◌^◌, ◌≤◌, ◌==◌, Bool, true, false, List, [], ◌∷◌}
use Rattle.std.specs.Prelude.{◌++◌, ◌&&◌, length, map, codes, count_by, decimal, Option, Some}
use Rattle.std.specs.Prelude.{None}
use Rattle.std.specs.Io.KnownBytes.{Appends}
use Rattle.std.specs.Option.{option_map}
use Rattle.std.specs.declared.io.Error.{Error}
use Rattle.hex.specs.Hex.{encode_lower}
use Rattle.text_lines.specs.Cuts.{lines_of}
use Rattle.b2sum_commands.specs.declared.options.Options.{Options}
use Rattle.b2sum_commands.specs.Expected.{IsComparedWithDigest}
use Rattle.b2sum_commands.specs.FolderChecks.{FoldersAreComparedIfAny, entry_names_of_lines}
use Rattle.b2sum_commands.specs.LongLists.{HasMoreBytesThan, list_too_long_reason}
use Rattle.b2sum_commands.specs.Messages.{Cannot, Message, is_standard_input}
use Rattle.b2sum_commands.specs.World.{Hashing, World, Streams, NamesAreDoneInTurn, IsStoppedInTurn}
use Rattle.b2sum_commands.specs.World.{OnlyTells}
use Rattle.b2sum_commands.specs.World.{AcceptsNothingOrPart, TellsMessage}
use Rattle.b2sum_commands.specs.PrintedSums.{CannotReadFile, DigestLineIsPrinted}
use Rattle.b2sum_commands.specs.Manifests.{LineIsChecked, StopsInLine, initial_place}
use Rattle.b2sum_commands.specs.ManifestChecks.{ManifestIsChecked, WholeManifestIsChecked}
use Rattle.b2sum_commands.specs.ManifestChecks.{IsWholeText, manifest_bytes}
use Rattle.b2sum_commands.specs.TextParts.{above_last_line}

-- The number of lines of a list, each of which ends with a newline.
abbrev pub line_count : List ℕ → ℕ
line_count list = count_by (λ b. b == 10) list

-- The line that seals a list: how many lines the list has, and the MAC of all its bytes.
abbrev pub seal_line : Hashing → Options → List ℕ → List ℕ
seal_line h o list = codes "# sealed " ++ (decimal (line_count list)
    ++ (codes " " ++ (encode_lower (h.seal o list) ++ (10 ∷ []))))

-- The last line of a text seals what is above it.
abbrev pub LastLineSealsText : Hashing → Options → List ℕ → Type 0
LastLineSealsText h o text = text ≡ above_last_line text ++ seal_line h o (above_last_line text)

-- ---- the list that is printed

-- The lines of the files of these names are printed, and then the line that seals them. If a file
-- cannot be read, the list is not sealed. If there is no result, an error ended it.
abbrev pub ListIsPrintedAndSealed : World → Options → List (List ℕ) → Streams → Streams
    → Option Bool
    → Type 0
ListIsPrintedAndSealed w o names old new (Some true) = (mid : Streams) × (list : List ℕ)
    × NamesAreDoneInTurn (DigestLineIsPrinted w o) names old mid (Some true)
    × Appends old.held mid.held list
    × Appends mid.held new.held (seal_line w.hashing o list) × (new.told ≡ mid.told)
ListIsPrintedAndSealed w o names old new (Some false) = NamesAreDoneInTurn (DigestLineIsPrinted w o)
    names old new (Some false)
ListIsPrintedAndSealed w o names old new None = NamesAreDoneInTurn (DigestLineIsPrinted w o) names
    old new None
    ⊎ ((mid : Streams) × (list : List ℕ)
    × NamesAreDoneInTurn (DigestLineIsPrinted w o) names old mid (Some true)
    × Appends old.held mid.held list
    × AcceptsNothingOrPart mid.held new.held (seal_line w.hashing o list))

-- The lines of the files of these names are printed, and sealed or not.
abbrev pub FilesArePrinted : Bool → World → Options → List (List ℕ) → Streams → Streams
    → Option Bool
    → Type 0
FilesArePrinted true w o names old new end = ListIsPrintedAndSealed w o names old new end
FilesArePrinted false w o names old new end = NamesAreDoneInTurn (DigestLineIsPrinted w o) names old
    new end

-- ---- the check of a list

-- The list of this name is not read, for this reason: opening it or a read of it failed, or it has
-- more bytes than these.
abbrev pub CannotReadList : World → Option (List ℕ) → List ℕ → ℕ → List ℕ → Type 0
CannotReadList w left name most reason =
    ((e : Error) × CannotReadFile w name e × w.files.describes e reason)
    ⊎ (HasMoreBytesThan (manifest_bytes w left name) most × (reason ≡ list_too_long_reason))

-- A message says why the list of this name is not read.
abbrev pub TellsListUnread : World → List ℕ → ℕ → Streams → Streams → Type 0
TellsListUnread w name most old new = (reason : List ℕ) × CannotReadList w old.left name most reason
    × TellsMessage w old new (Cannot name reason)

-- A list is not read, as a message says. Nothing is printed.
abbrev pub ListIsNotRead : World → List ℕ → ℕ → Streams → Streams → Type 0
ListIsNotRead w name most old new = (new.held ≡ old.held) × TellsListUnread w name most old new

-- The seal of the list of this name does not hold.
abbrev pub broken_seal_message : List ℕ → Message
broken_seal_message name = Cannot name (codes "the seal does not hold")

-- A list is read, and its last line does not seal what is above it. Nothing is printed but a
-- message that says so.
pub record SealIsBroken (w : World) (o : Options) (name : List ℕ) (old new : Streams) : Type 0 where
  pub text : List ℕ
  pub left : Option (List ℕ)
  pub is_text : IsWholeText (is_standard_input name) (w.files.holds name) old.left left text
  pub broken : LastLineSealsText w.hashing o text → ⊥
  pub only : OnlyTells (record old { left = left }) new
  pub told : TellsMessage w old new (broken_seal_message name)

-- The names of the entries of a sealed list of this name, from where it begins.
abbrev pub listed : Options → List ℕ → Streams → List ℕ → List (List ℕ)
listed o name s text = entry_names_of_lines o (is_standard_input name) s.place.spacing
    (lines_of text)

-- A list is read, and its last line seals what is above it. It is checked as a manifest of this
-- text is, and what is in the folders of the options is looked for in it, with this result.
pub record SealedListIsChecked (w : World) (o : Options) (name : List ℕ) (old new : Streams)
    (result : Bool)
    : Type 0 where
  pub holds : Bool
  pub checked : Streams
  pub judged : WholeManifestIsChecked w o name old checked holds
  pub sealed : LastLineSealsText w.hashing o judged.text
  pub fits : length judged.text ≤ 2 ^ 28
  pub has_all : Bool
  pub compared : FoldersAreComparedIfAny w o (map (λ folder. folder.items) o.folders.items)
      (listed o name old judged.text) checked new has_all
  pub is_result : result ≡ (holds && has_all)

-- A list is read, and its last line seals what is above it. An error ended the check of its lines,
-- or came after that.
pub record SealedCheckIsStopped (w : World) (o : Options) (name : List ℕ) (old new : Streams) : Type
    0 where
  pub text : List ℕ
  pub left : Option (List ℕ)
  pub is_text : IsWholeText (is_standard_input name) (w.files.holds name) old.left left text
  pub sealed : LastLineSealsText w.hashing o text
  pub lines : IsStoppedInTurn (LineIsChecked w o (is_standard_input name))
      (StopsInLine w o (is_standard_input name)) (lines_of text)
      (record old { left = left }) new

-- A list of at most 2^28 bytes is believed if it is sealed. Otherwise it does not hold. If there is
-- no result, an error came before anything was printed, or ended the check of a list that is
-- sealed.
abbrev pub ListIsCheckedBySeal : World → Options → List ℕ → Streams → Streams → Option Bool → Type 0
ListIsCheckedBySeal w o name old new (Some result) =
    ((result ≡ false) × (ListIsNotRead w name (2 ^ 28) old new ⊎ SealIsBroken w o name old new))
    ⊎ SealedListIsChecked w o name old new result
ListIsCheckedBySeal w o name old new None = (new.held ≡ old.held)
    ⊎ SealedCheckIsStopped w o name old new

-- The manifest of this name is checked: as a sealed list, or as any.
abbrev pub ListOrManifestIsChecked : Bool → World → Options → List ℕ → Streams → Streams
    → Option Bool → Type 0
ListOrManifestIsChecked true w o name old new end =
    ListIsCheckedBySeal w o name (record old { place = initial_place o name }) new end
ListOrManifestIsChecked false w o name old new end = ManifestIsChecked w o name old new end

-- The file of this name is compared with a digest, if one is given. Otherwise it is checked as a
-- manifest, sealed or not.
abbrev pub FileIsComparedOrChecked : Option (List ℕ) → World → Options → List ℕ → Streams → Streams
    → Option Bool → Type 0
FileIsComparedOrChecked (Some digest) w o name old new end = IsComparedWithDigest w o digest name
    old new end
FileIsComparedOrChecked None w o name old new end = ListOrManifestIsChecked o.is_sealed w o name old
    new end

-- The file of this name is checked as the options say.
abbrev pub FileIsCheckedByOptions : World → Options → List ℕ → Streams → Streams → Option Bool
    → Type 0
FileIsCheckedByOptions w o = FileIsComparedOrChecked
    (option_map (λ digest. digest.bytes.items) o.expected) w o
