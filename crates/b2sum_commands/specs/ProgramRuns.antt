-- What a run did for its command line.
use Rattle.std.specs.Prelude.{◌≡◌, ◌==◌, ◌&&◌, not, ℕ, Bool, true, false, if◌then◌else◌, List}
use Rattle.std.specs.Prelude.{[], ◌∷◌, map, is_some, ◌++◌, nat_le, codes, Option, Result, Ok, Err}
use Rattle.std.specs.Prelude.{Some, None, IfSome, ◌⊎◌}
use Rattle.std.specs.Io.KnownBytes.{Appends, Consumes, IsAtEnd}
use Rattle.std.specs.Option.{option_map}
use Rattle.std.specs.declared.io.Error.{Error}
use Rattle.b2sum_lines.specs.ManifestLines.{max_bytes}
use Rattle.b2sum_commands.specs.declared.options.Options.{Options}
use Rattle.b2sum_commands.specs.KeyTexts.{are_digits}
use Rattle.b2sum_commands.specs.Messages.{Cannot, DigitsAsKey, ShortMacs, Usage, Value}
use Rattle.b2sum_commands.specs.Messages.{is_standard_input, message, message_if}
use Rattle.b2sum_commands.specs.Folders.{FoldersAreWalked, TellsNotRegularFiles}
use Rattle.b2sum_commands.specs.World.{Files, Hashing, World, Streams, NamesAreDoneInTurn}
use Rattle.b2sum_commands.specs.World.{FileHasKey, FileHasNoKey}
use Rattle.b2sum_commands.specs.World.{TellsMessage}
use Rattle.b2sum_commands.specs.World.{AcceptsNothingOrPart, RunEndsWithError, OnlyTells, TellsText}
use Rattle.b2sum_commands.specs.PrintedSums.{CannotReadFile}
use Rattle.b2sum_commands.specs.SealedLists.{FilesArePrinted, FileIsCheckedByOptions}
use Rattle.b2sum_commands.specs.CommandLine.{Choice, End, Helped, Versioned, Refused}
use Rattle.b2sum_commands.specs.AcceptedOptions.{OptionsMatchChoice, is_input}

-- The lines of the files of these names are printed, and then those of all files in the folders and
-- below. What else is there is named by messages before that. The list is sealed or not, and only
-- if each folder has a list.
pub record FolderFilesArePrinted (w : World) (o : Options) (folders names : List (List ℕ))
    (old new : Streams) (end : Option Bool) : Type 0 where
  pub files : List (List ℕ)
  pub others : List (List ℕ)
  pub are_listed : Bool
  pub walked : Streams
  pub are_walked : FoldersAreWalked w folders old walked files others are_listed
  pub told : Streams
  pub are_told : TellsNotRegularFiles w others walked told
  pub printed : Option Bool
  pub are_printed :
      FilesArePrinted (o.is_sealed && are_listed) w o (names ++ files) told new printed
  pub is_end : end ≡ option_map (λ well. are_listed && well) printed

-- The lines of the files of these names, and of those in folders, are printed. If there is no
-- result, an error ended it.
abbrev pub AllFilesArePrinted : List (List ℕ) → World → Options → List (List ℕ) → Streams → Streams
    → Option Bool → Type 0
AllFilesArePrinted [] w o names old new end = FilesArePrinted o.is_sealed w o names old new end
AllFilesArePrinted (folder ∷ folders) w o names old new end =
    FolderFilesArePrinted w o (folder ∷ folders) names old new end
    ⊎ ((end ≡ None) × (new.held ≡ old.held))

-- The files are checked, or their lines are printed. The result is whether each holds, or was read.
-- There is none if an error ended it.
abbrev pub FilesAreCheckedOrPrinted : Bool → World → Options → List (List ℕ) → Streams → Streams
    → Option Bool
    → Type 0
FilesAreCheckedOrPrinted true w o names old new end = NamesAreDoneInTurn
    (FileIsCheckedByOptions w o) names old new end
FilesAreCheckedOrPrinted false w o names old new end =
    AllFilesArePrinted (map (λ folder. folder.items) o.folders.items) w o names old new end

-- The bytes of the key file of this name: those that are left of standard input for `-`.
abbrev pub key_file_bytes : Files → Option (List ℕ) → List ℕ → Option (List ℕ)
key_file_bytes files left name = if is_standard_input name then left else files.holds name

-- The most bytes of the key of a key file: those of the algorithm, or 64 if the key is derived from
-- it.
abbrev pub max_key_bytes : Options → ℕ
max_key_bytes o = if is_some o.context then 64 else max_bytes o.algorithm

-- The key of the digests, from that of a key file: the same, or the longest of the algorithm that
-- is derived from it for the context.
abbrev pub derived_or_same_key : Hashing → Option (List ℕ) → ℕ → List ℕ → List ℕ
derived_or_same_key h None most key = key
derived_or_same_key h (Some context) most key = h.derive key context most

-- The key file of the choice, if it has one, has this key: its bytes, or those that its digits
-- write. The options have it, or that which is derived from it.
abbrev pub KeyFileHasKey : World → Option (List ℕ) → Choice → List ℕ → Options → Type 0
KeyFileHasKey w left c key o = IfSome c.key_file (λ name.
    FileHasKey (key_file_bytes w.files left name) o.key_is_hex (max_key_bytes o) key
    × (o.key.items ≡ derived_or_same_key w.hashing c.context (max_bytes o.algorithm) key))

-- Standard input is at its end after the key, if that is there, and else as it was.
abbrev pub InputIsPastKey : Bool → Option (List ℕ) → Option (List ℕ) → Type 0
InputIsPastKey true old new = (key : List ℕ) × Consumes old new key × IsAtEnd new
InputIsPastKey false old new = new ≡ old

-- The key is read, and nothing else is changed.
abbrev pub ReadsOnlyKey : Option (List ℕ) → Streams → Streams → Type 0
ReadsOnlyKey file old new = (left : Option (List ℕ)) × (new ≡ record old { left = left })
    × InputIsPastKey (is_input file) old.left left

-- Why a file has no key of at most this many bytes.
abbrev pub no_key_reason : Bool → ℕ → List ℕ
no_key_reason false most = if most == 64 then codes "a key has 1 to 64 bytes"
    else codes "a key of BLAKE2s or BLAKE2sp has 1 to 32 bytes"
no_key_reason true most =
    if most == 64 then codes "a key has 2 to 128 hexadecimal digits, two for each byte"
    else codes "a key of BLAKE2s or BLAKE2sp has 2 to 64 hexadecimal digits, two for each byte"

-- The key file of this name has no key, for this reason: it is not read to its end, has too few
-- bytes or too many, or not the digits of a key.
abbrev pub KeyFileHasNoKey : World → Option (List ℕ) → Bool → ℕ → List ℕ → List ℕ → Type 0
KeyFileHasNoKey w left hex most name reason =
    ((e : Error) × CannotReadFile w name e × w.files.describes e reason)
    ⊎ (FileHasNoKey (key_file_bytes w.files left name) hex most × (reason ≡ no_key_reason hex most))

-- A message says that the file of this name has no key, and why.
abbrev pub TellsNoKey : World → List ℕ → Bool → ℕ → Streams → Streams → Type 0
TellsNoKey w name hex most old new = (reason : List ℕ)
    × KeyFileHasNoKey w old.left hex most name reason × TellsMessage w old new (Cannot name reason)

-- There is a key file, and it has no key, as a message says. Nothing is printed.
pub record KeyFileIsRefused (w : World) (file : Option (List ℕ)) (hex : Bool) (most : ℕ)
    (old new : Streams) : Type 0 where
  pub name : List ℕ
  pub named : file ≡ Some name
  pub told : TellsNoKey w name hex most old new
  pub kept : new.held ≡ old.held

-- The digests are MACs of fewer than 128 bits.
abbrev pub are_short_macs : Options → Bool
are_short_macs o = o.needs.key && not (nat_le 16 o.bytes)

-- The program of this name warns of short MACs, if there are any. Otherwise it says nothing.
abbrev pub WarnsIfShortMacs : Bool → List ℕ → Streams → Streams → Type 0
WarnsIfShortMacs true program old new =
    OnlyTells old new × TellsText old new (message program ShortMacs)
WarnsIfShortMacs false program old new = new ≡ old

-- The program of this name warns of a key that is read from this file as it is, and is only
-- hexadecimal digits. Otherwise it says nothing.
abbrev pub WarnsIfKeyIsDigits : List ℕ → Option (List ℕ) → Bool → List ℕ → Streams → Streams
    → Type 0
WarnsIfKeyIsDigits program None hex key old new = new ≡ old
WarnsIfKeyIsDigits program (Some name) hex key old new = OnlyTells old new
    × TellsText old new (message_if (not hex && are_digits key) program (DigitsAsKey name))

-- The key is read, and nothing else is changed. Then a warning may say that it is only digits.
abbrev pub ReadsKeyAndWarns : World → Option (List ℕ) → Bool → List ℕ → Streams → Streams → Type 0
ReadsKeyAndWarns w file hex key old new =
    (read : Streams) × ReadsOnlyKey file old read
    × WarnsIfKeyIsDigits w.program file hex key read new

-- The key of the choice is read, if it has a key file, and is that of the options.
abbrev pub ChosenKeyIsRead : World → Choice → Options → Streams → Streams → Type 0
ChosenKeyIsRead w c o old new = (key : List ℕ) × KeyFileHasKey w old.left c key o
    × ReadsKeyAndWarns w c.key_file o.key_is_hex key old new

-- The task of a choice is done for the files of these names: the key is read, and then warnings say
-- that it is only digits, and that MACs are short, before any file is read.
abbrev pub DoesTask : World → Choice → List (List ℕ) → Streams → Streams → Option Bool → Type 0
DoesTask w c names old new end =
    (o : Options) × OptionsMatchChoice c o × (keyed : Streams) × ChosenKeyIsRead w c o old keyed
    × (warned : Streams) × WarnsIfShortMacs (are_short_macs o) w.program keyed warned
    × FilesAreCheckedOrPrinted o.checks w o names warned new end

-- The task of a choice is not begun: its key file has no key, or an error came before, and nothing
-- is printed.
abbrev pub TaskIsNotBegun : World → Choice → Streams → Streams → Option Bool → Type 0
TaskIsNotBegun w c old new (Some well) = (well ≡ false) × (o : Options) × OptionsMatchChoice c o
    × KeyFileIsRefused w c.key_file o.key_is_hex (max_key_bytes o) old new
TaskIsNotBegun w c old new None = new.held ≡ old.held

-- The task of a choice is done for the files of these names, or it is not begun.
abbrev pub DoesTaskOrNotBegun : World → Choice → List (List ℕ) → Streams → Streams → Option Bool
    → Type 0
DoesTaskOrNotBegun w c names old new end =
    DoesTask w c names old new end ⊎ TaskIsNotBegun w c old new end

-- The help of the program of this name, with what comes after that.
abbrev pub help_text : List ℕ → List ℕ → List ℕ
help_text name text = codes "Usage: " ++ name ++ text

-- A text is printed. If there is no result, nothing or a part of it is.
abbrev pub PrintsText : List ℕ → Streams → Streams → Option Bool → Type 0
PrintsText text old new (Some well) = (well ≡ true) × Appends old.held new.held text
PrintsText text old new None = AcceptsNothingOrPart old.held new.held text

-- A message says what is wrong with the command line.
abbrev pub TellsUsageError : World → Streams → Streams → Type 0
TellsUsageError w old new = ((text : List ℕ) × TellsMessage w old new (Usage text))
    ⊎ ((first : List ℕ) × (second : List ℕ) × TellsMessage w old new (Value first second))

-- Nothing is printed but such a message. If there is no result, an error came before.
abbrev pub RefusesCommandLine : World → Streams → Streams → Option Bool → Type 0
RefusesCommandLine w old new (Some well) =
    (well ≡ false) × (new.held ≡ old.held) × TellsUsageError w old new
RefusesCommandLine w old new None = new ≡ old

-- What a command line means is done, and all went well or not: the help, the version or only a
-- message is printed, or a task is done, unless its key file has no key. If there is no result, an
-- error ended it.
abbrev pub DoesCommandLine : World → List ℕ → List ℕ → Result (Choice × List (List ℕ)) End → Streams
    → Streams → Option Bool → Type 0
DoesCommandLine w help version (Err Helped) old new end = PrintsText help old new end
DoesCommandLine w help version (Err Versioned) old new end = PrintsText version old new end
DoesCommandLine w help version (Err Refused) old new end = RefusesCommandLine w old new end
DoesCommandLine w help version (Ok read) old new end = DoesTaskOrNotBegun w read.0 read.1 old new
    end

-- A run did what its command line means, or an error ended that, as the last message says.
abbrev pub RunsCommandLine : World → List ℕ → List ℕ → Result (Choice × List (List ℕ)) End
    → Streams → Streams → Option Bool → Type 0
RunsCommandLine w help version line old new (Some well) =
    DoesCommandLine w help version line old new (Some well)
RunsCommandLine w help version line old new None =
    (mid : Streams) × DoesCommandLine w help version line old mid None × RunEndsWithError w mid new

-- The status of a run: 0 if all went well.
abbrev pub exit_status : Option Bool → ℕ
exit_status (Some true) = 0
exit_status (Some false) = 1
exit_status None = 1
