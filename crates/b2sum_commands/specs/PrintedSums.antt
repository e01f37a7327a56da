-- What is read of a file, and the line that is printed for it.
use Rattle.std.specs.Prelude.{◌≡◌, ℕ, Bool, true, false, List, [], ◌∷◌, ◌++◌, Option, Some, None, ⊤}
use Rattle.std.specs.Prelude.{if◌then◌else◌, ◌⊎◌}
use Rattle.std.specs.Io.KnownBytes.{Appends}
use Rattle.std.specs.IoError.{error_kind}
use Rattle.std.specs.declared.io.Error.{Error}
use Rattle.std.specs.declared.io.ErrorKind.TheVariants.{NotFound}
use Rattle.blake2_streams.specs.Streams.{ReturnsAllBytes, AcceptsProperPrefix}
use Rattle.b2sum_lines.specs.ManifestLines.{Line, entry_line, unescaped_line}
use Rattle.hex.specs.Hex.{encode_lower}
use Rattle.b2sum_commands.specs.declared.hashes.Function.{Function}
use Rattle.b2sum_commands.specs.declared.options.Options.{Options}
use Rattle.b2sum_commands.specs.declared.options.Shape.{Shape}
use Rattle.b2sum_commands.specs.declared.options.Shape.TheVariants.{Named, Digits, Bytes}
use Rattle.b2sum_commands.specs.Messages.{Cannot, is_standard_input}
use Rattle.b2sum_commands.specs.World.{Files, Streams, World, TellsMessage}

-- A source returned this text up to its end: standard input, which had `left` before and has
-- `after` then, or a file that holds `held`. If that is not known, the text is some bytes.
abbrev pub SourceHasText : Bool → Option (List ℕ) → Option (List ℕ) → Option (List ℕ) → List ℕ
    → Type 0
SourceHasText true held left after text = ReturnsAllBytes left after text
SourceHasText false held left after text =
    (after ≡ left) × (end : Option (List ℕ)) × ReturnsAllBytes held end text

-- A file that is not standard input leaves that as it is.
abbrev pub KeepsInputUnlessRead : Bool → Option (List ℕ) → Option (List ℕ) → Type 0
KeepsInputUnlessRead true left after = ⊤
KeepsInputUnlessRead false left after = after ≡ left

-- The file of this name is not read to its end: opening it or a read of it returned this error.
abbrev pub CannotReadFile : World → List ℕ → Error → Type 0
CannotReadFile w name e =
    ((is_standard_input name ≡ false) × w.files.refuses name e) ⊎ w.fails name e

-- There is no file of this name.
abbrev pub FileIsMissing : Files → List ℕ → Type 0
FileIsMissing files name =
    (e : Error) × files.refuses name e × (error_kind e ≡ NotFound)

-- A file has no digest: it is not read to its end, or the hash function refuses it.
abbrev pub CannotDigestFile : World → Options → Function → List ℕ → Error → Type 0
CannotDigestFile w o f name e = CannotReadFile w name e ⊎ (w.hashing.rejects o f ≡ true)

-- A message says why the file of this name has no digest: it names the file, and the error.
abbrev pub TellsWhyNoDigest : World → Options → Function → List ℕ → Streams → Streams → Type 0
TellsWhyNoDigest w o f name old new = (e : Error) × CannotDigestFile w o f name e
    × (reason : List ℕ) × w.files.describes e reason
    × TellsMessage w old new (Cannot name reason)

-- The hash function of the digests that are printed.
abbrev pub printed_function : Options → Function
printed_function o = record { algorithm = o.algorithm; bytes = o.bytes }

-- The line of an entry with its end: a newline, or a zero byte after a name as it is.
abbrev pub terminated_line : Bool → Line → List ℕ
terminated_line zero e = if zero then unescaped_line e ++ (0 ∷ []) else entry_line e ++ (10 ∷ [])

-- The end of a line.
abbrev pub line_terminator : Bool → ℕ
line_terminator zero = if zero then 0 else 10

-- What is printed of an entry: its line, the digits of its digest, or the bytes of that.
abbrev pub printed : Shape → Bool → Line → List ℕ
printed Named zero e = terminated_line zero e
printed Digits zero e = encode_lower e.digest ++ (line_terminator zero ∷ [])
printed Bytes zero e = e.digest

-- The entry of a file: the digest of its text by the options.
abbrev pub entry_of : World → Options → List ℕ → List ℕ → Line
entry_of w o name text = record {
  algorithm = o.algorithm;
  digest = w.hashing.digest o (printed_function o) text;
  name = name;
  style = o.style;
}

-- A list has what was printed after it, if it is kept.
abbrev pub ListKeepsPrinted : Bool → Option (List ℕ) → Option (List ℕ) → List ℕ → List ℕ → Type 0
ListKeepsPrinted false old new before after = ⊤
ListKeepsPrinted true old new before after =
    (text : List ℕ) × Appends old new text × (after ≡ before ++ text)

-- A sink accepted this much of the line of the file of this name, which has the digest of all its
-- text.
abbrev pub DigestLineIsAccepted : (Option (List ℕ) → Option (List ℕ) → List ℕ → Type 0) → World
    → Options
    → List ℕ → Streams → Streams → Type 0
DigestLineIsAccepted accepts w o name old new =
    (text : List ℕ)
    × SourceHasText (is_standard_input name) (w.files.holds name) old.left new.left text
    × accepts old.held new.held (printed o.shape o.ends_zero (entry_of w o name text))

-- The line of the file of this name is printed, and no message. If the result is false, nothing is
-- printed, since the file cannot be read, as a message says; if it does not exist, and that is to
-- be ignored, there is none. If there is no result, an error ended it, and nothing or a part of the
-- line is printed.
abbrev pub DigestLineIsPrinted : World → Options → List ℕ → Streams → Streams → Option Bool → Type 0
DigestLineIsPrinted w o name old new (Some true) =
    DigestLineIsAccepted Appends w o name old new × (new.told ≡ old.told)
DigestLineIsPrinted w o name old new (Some false) =
    KeepsInputUnlessRead (is_standard_input name) old.left new.left × (new.held ≡ old.held)
    × (TellsWhyNoDigest w o (printed_function o) name old new
    ⊎ ((o.ignores_missing ≡ true) × (is_standard_input name ≡ false) × FileIsMissing w.files name
    × (new.told ≡ old.told)))
DigestLineIsPrinted w o name old new None = (new.held ≡ old.held)
    ⊎ DigestLineIsAccepted AcceptsProperPrefix w o name old new
