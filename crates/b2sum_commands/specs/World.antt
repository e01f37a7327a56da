-- What a run finds, and what goes on from one file to the next.
use Rattle.std.specs.Prelude.{◌≡◌, ℕ, Bool, true, List, [], ◌∷◌, Option, ◌⊎◌, ◌<◌}
use Rattle.std.specs.Prelude.{◌++◌, length, Some, None}
use Rattle.std.specs.Io.KnownBytes.{Appends, Consumes, IsAtEnd}
use Rattle.std.specs.List.{list_all}
use Rattle.std.specs.declared.io.Error.{Error}
use Rattle.blake2_streams.specs.Streams.{AcceptsProperPrefix}
use Rattle.b2sum_lines.specs.declared.entry.Spacing.{Spacing}
use Rattle.b2sum_commands.specs.declared.hashes.Function.{Function}
use Rattle.b2sum_commands.specs.declared.options.Options.{Options}
use Rattle.b2sum_commands.specs.KeyTexts.{key_of_file_bytes, max_key_file_bytes}
use Rattle.b2sum_commands.specs.Messages.{Message, NoMemory, WriteFailed, message}

-- Files by their names: the bytes of a file, if that is known, the list of a folder's entries, if
-- that is known, whether it may be that the file or folder cannot be opened, with this error, and
-- whether an error may have this text.
pub record Files : Type 1 where
  pub holds : List ℕ → Option (List ℕ)
  pub lists : List ℕ → Option (List ℕ)
  pub refuses : List ℕ → Error → Type 0
  pub describes : Error → List ℕ → Type 0

-- Hash functions, with the parameters of options: the digest of a text, whether a digest may be
-- refused, the MAC that seals a list, and the key of so many bytes that is derived from a key for a
-- context.
pub record Hashing : Type 0 where
  pub digest : Options → Function → List ℕ → List ℕ
  pub rejects : Options → Function → Bool
  pub seal : Options → List ℕ → List ℕ
  pub derive : List ℕ → List ℕ → ℕ → List ℕ

-- The manifest that is checked, as far as it is read: its name, the spacing of its lines, how many
-- they are, at most 2^64 - 1.
pub record Place : Type 0 where
  pub name : List ℕ
  pub spacing : Spacing
  pub number : ℕ

-- What goes on from one file to the next: the bytes that are left of standard input, the bytes that
-- standard output holds and those of messages, if that is known, whether a write to either failed,
-- the error of that of standard output, and the place in manifests.
pub record Streams : Type 0 where
  pub left : Option (List ℕ)
  pub held : Option (List ℕ)
  pub told : Option (List ℕ)
  pub output_failed : Bool
  pub output_error : Option Error
  pub messages_failed : Bool
  pub place : Place

-- There is an open file of this name of which a read failed. Contracts say this of any type of open
-- files, so the only way to show it is a read of the run's own.
abbrev pub OpenFileHasFailed : {F : Type 0} → (F → List ℕ) → (F → Bool) → List ℕ → Type 0
OpenFileHasFailed {F} named failed name = (file : F) × (named file ≡ name) × (failed file ≡ true)

-- A read of an open file of this name returned this error.
abbrev pub OpenFileHasError : {F : Type 0} → (F → List ℕ) → (F → Bool) → (F → Option Error) → List ℕ
    → Error → Type 0
OpenFileHasError {F} named failed failure name e = (file : F) × (named file ≡ name)
    × (failed file ≡ true) × (failure file ≡ Some e)

-- What a run finds: the name of the program, the files, the hash functions, and whether a read of
-- an open file of a name failed, and with which error.
pub record World : Type 1 where
  pub program : List ℕ
  pub files : Files
  pub hashing : Hashing
  pub breaks : List ℕ → Type 0
  pub fails : List ℕ → Error → Type 0

-- The world of the program of this name, with open files that have names and may have failed.
abbrev pub world_of : {F : Type 0} → List ℕ → (F → List ℕ) → (F → Bool) → (F → Option Error)
    → Files → Hashing → World
world_of program named failed failure files hashing = record {
  program = program;
  files = files;
  hashing = hashing;
  breaks = OpenFileHasFailed named failed;
  fails = OpenFileHasError named failed failure;
}

-- All bytes of a file, which holds `held` if that is known, have this key of at most so many bytes.
-- `hex` is that they are hexadecimal digits.
pub record FileHasKey (held : Option (List ℕ)) (hex : Bool) (most : ℕ) (key : List ℕ) : Type 0 where
  pub bytes : List ℕ
  pub end : Option (List ℕ)
  pub given : Consumes held end bytes
  pub at_end : IsAtEnd end
  pub has : key_of_file_bytes hex most bytes ≡ Some key

-- A file has no key: all its bytes have none, or it has more than a key file can have.
abbrev pub FileHasNoKey : Option (List ℕ) → Bool → ℕ → Type 0
FileHasNoKey held hex most = (bytes : List ℕ) × (end : Option (List ℕ)) × Consumes held end bytes
    × ((IsAtEnd end × (key_of_file_bytes hex most bytes ≡ None))
    ⊎ (max_key_file_bytes hex most < length bytes))

-- A sink accepted a line after all others, or it has failed. A sink that has failed stays so.
pub record SinkAcceptsOrFails (was_failed is_failed : Bool) (old new : Option (List ℕ))
    (line : List ℕ)
    : Type 0 where
  pub stays : was_failed ≡ true → is_failed ≡ true
  pub accepted : (is_failed ≡ true) ⊎ Appends old new line

-- A text is told: the sink of messages accepted it, or it has failed.
abbrev pub TellsText : Streams → Streams → List ℕ → Type 0
TellsText old new text =
    SinkAcceptsOrFails old.messages_failed new.messages_failed old.told new.told text

-- This is said.
abbrev pub TellsMessage : World → Streams → Streams → Message → Type 0
TellsMessage w old new said = TellsText old new (message w.program said)

-- Only messages are told.
abbrev pub OnlyTells : Streams → Streams → Type 0
OnlyTells old new =
    new ≡ record old { told = new.told; messages_failed = new.messages_failed }

-- A sink accepted nothing, or a beginning of a text, and not all of it.
abbrev pub AcceptsNothingOrPart : Option (List ℕ) → Option (List ℕ) → List ℕ → Type 0
AcceptsNothingOrPart old new text = (new ≡ old) ⊎ AcceptsProperPrefix old new text

-- The message of a write that failed with this error, with its text if there is memory for that.
abbrev pub IsWriteError : Files → Error → Message → Type 0
IsWriteError files e said = (said ≡ WriteFailed None) ⊎ ((reason : List ℕ)
    × files.describes e reason × (said ≡ WriteFailed (Some reason)))

-- Why an error ended a run: an allocation failed, or a write to the output, with that error.
abbrev pub IsCauseOfEnd : World → Streams → Message → Type 0
IsCauseOfEnd w s said = (said ≡ NoMemory) ⊎ ((s.output_failed ≡ true)
    × (e : Error) × (s.output_error ≡ Some e) × IsWriteError w.files e said)

-- An error ended a run, as one more message says. Nothing else is printed.
pub record RunEndsWithError (w : World) (old new : Streams) : Type 0 where
  pub said : Message
  pub cause : IsCauseOfEnd w new said
  pub told : TellsMessage w old new said
  pub held : new.held ≡ old.held

-- Standard output, and the place in manifests, stay the same.
pub record KeepsOutputAndPlace (old new : Streams) : Type 0 where
  pub held : new.held ≡ old.held
  pub place : new.place ≡ old.place

-- Something is done for each of these, one after the other, with these results.
abbrev pub AreDoneInTurn : {X Y : Type 0} → (X → Streams → Streams → Y → Type 0) → List X → Streams
    → Streams → List Y → Type 0
AreDoneInTurn does [] old new [] = new ≡ old
AreDoneInTurn does [] old new (y ∷ ys) = ⊥
AreDoneInTurn does (x ∷ xs) old new [] = ⊥
AreDoneInTurn does (x ∷ xs) old new (y ∷ ys) =
    (mid : Streams) × does x old mid y × AreDoneInTurn does xs mid new ys

-- What is done for the next of these, if there is one, is begun. Otherwise nothing is printed.
abbrev pub BeginsNext : {X : Type 0} → (X → Streams → Streams → Type 0) → List X → Streams
    → Streams → Type 0
BeginsNext begins [] old new = new.held ≡ old.held
BeginsNext begins (x ∷ rest) old new = begins x old new

-- An error ended what is done for these, one after the other: it is done for the first of them, and
-- begun for the next.
pub record IsStoppedInTurn {X Y : Type 0} (does : X → Streams → Streams → Y → Type 0)
    (begins : X → Streams → Streams → Type 0) (all : List X) (old new : Streams) : Type 0 where
  pub done : List X
  pub rest : List X
  pub are_all : all ≡ done ++ rest
  pub results : List Y
  pub mid : Streams
  pub are_done : AreDoneInTurn does done old mid results
  pub next : BeginsNext begins rest mid new

-- What is done for a name, with this result.
abbrev pub EndsWithResult : (List ℕ → Streams → Streams → Option Bool → Type 0) → List ℕ → Streams
    → Streams
    → Bool → Type 0
EndsWithResult does name old new well = does name old new (Some well)

-- What is done for a name if an error ends it, so that there is no result.
abbrev pub StopsWithoutResult : (List ℕ → Streams → Streams → Option Bool → Type 0) → List ℕ
    → Streams
    → Streams → Type 0
StopsWithoutResult does name old new = does name old new None

-- Something is done for each of these names, one after the other. The result is whether each went
-- well. There is none if an error ended it.
abbrev pub NamesAreDoneInTurn : (List ℕ → Streams → Streams → Option Bool → Type 0) → List (List ℕ)
    → Streams → Streams → Option Bool → Type 0
NamesAreDoneInTurn does names old new (Some all) =
    (each : List Bool) × AreDoneInTurn (EndsWithResult does) names old new each
    × (all ≡ list_all (λ well. well) each)
NamesAreDoneInTurn does names old new None = IsStoppedInTurn (EndsWithResult does)
    (StopsWithoutResult does) names old new
