-- What the program says: its messages, and their lines.
use Rattle.std.specs.Prelude.{ℕ, ◌==◌, Bool, true, false, if◌then◌else◌, List, [], ◌∷◌, ◌++◌}
use Rattle.std.specs.Prelude.{codes, decimal, Option, Some, None}
use Rattle.std.specs.Str.{bytes_eq}
use Rattle.b2sum_lines.specs.ManifestLines.{tag}
use Rattle.b2sum_lines.specs.declared.entry.Algorithm.{Algorithm}
use Rattle.b2sum_commands.specs.LineNeeds.{lacks_text}
use Rattle.b2sum_commands.specs.Quoting.{quoted_name}
use Rattle.b2sum_commands.specs.declared.line_needs.Lacks.{Lacks}

-- A message, with the name of the file or of the manifest that it is about.
pub data Message : Type 0 where
  -- The file cannot be opened or read, or is no key, for this reason.
  Cannot : List ℕ → List ℕ → Message
  -- A read of the manifest failed.
  BreaksOff : List ℕ → Message
  -- The line of this number is not that of an entry, which would be of this algorithm.
  Improper : List ℕ → ℕ → Algorithm → Message
  -- The line of this number is one of another hash function.
  Foreign : List ℕ → ℕ → Message
  -- The line of this number needs options.
  LineNeeds : List ℕ → ℕ → Lacks → Message
  -- No line is that of an entry.
  HasNoEntry : List ℕ → Message
  -- Lines need options.
  LinesNeed : List ℕ → Lacks → Message
  -- No file was verified.
  VerifiesNone : List ℕ → Message
  -- So many lines came to something: a text for one, and one for several.
  HaveCount : ℕ → List ℕ → List ℕ → Message
  -- The command line is wrong, for this reason.
  Usage : List ℕ → Message
  -- A value is wrong, as one line or two say.
  Value : List ℕ → List ℕ → Message
  -- The key in the file of this name is hexadecimal digits, as they are.
  DigitsAsKey : List ℕ → Message
  -- The digests are MACs that are short enough to be guessed.
  ShortMacs : Message
  -- A write to the output failed, for a reason.
  WriteFailed : Option (List ℕ) → Message
  -- An allocation failed.
  NoMemory : Message

-- The line of a message of the program of this name, in three parts.
abbrev pub line : List ℕ → List ℕ → List ℕ → List ℕ → List ℕ
line program a b c = program ++ codes ": " ++ a ++ b ++ c ++ (10 ∷ [])

-- The name of standard input.
abbrev pub is_standard_input : List ℕ → Bool
is_standard_input name = bytes_eq name (45 ∷ [])

-- The name of a manifest in messages.
abbrev pub manifest_title : List ℕ → List ℕ
manifest_title name = quoted_name (if is_standard_input name then codes "standard input" else name)

-- The line of a text, if there is one.
abbrev pub line_if_any : List ℕ → List ℕ → List ℕ
line_if_any program [] = []
line_if_any program (b ∷ text) = line program (b ∷ text) [] []

-- The lines of a message.
abbrev pub message : List ℕ → Message → List ℕ
message program (Cannot name reason) = line program (quoted_name name) (codes ": ") reason
message program (BreaksOff name) = line program (manifest_title name) (codes ": ")
    (codes "read error")
message program (Improper name n a) = line program (manifest_title name)
    (codes ": " ++ decimal n ++ codes ": improperly formatted " ++ tag a) (codes " checksum line")
message program (Foreign name n) = line program (manifest_title name)
    (codes ": " ++ decimal n) (codes ": checksum line of another algorithm")
message program (LineNeeds name n lacks) =
    line program (manifest_title name) (codes ": " ++ decimal n ++ codes ": needs")
    (lacks_text lacks)
message program (HasNoEntry name) =
    line program (manifest_title name) (codes ": no properly formatted checksum lines found") []
message program (LinesNeed name lacks) =
    line program (manifest_title name) (codes ": lines need") (lacks_text lacks)
message program (VerifiesNone name) =
    line program (manifest_title name) (codes ": no file was verified") []
message program (HaveCount n one several) =
    line program (codes "WARNING: ") (decimal n) (if n == 1 then one else several)
message program (Usage text) = line program text [] [] ++ (codes "Try '" ++ program
    ++ codes " --help' for more information.\n")
message program (Value first second) = line program first [] [] ++ line_if_any program second
message program (DigitsAsKey name) = line program (codes "WARNING: ") (quoted_name name)
    (codes ": has only hexadecimal digits, which --key-hex-file would decode")
message program ShortMacs =
    line program (codes "WARNING: MACs below 128 bits can be guessed") [] []
message program (WriteFailed None) = line program (codes "write error") [] []
message program (WriteFailed (Some reason)) = line program (codes "write error: ") reason []
message program NoMemory = line program (codes "memory exhausted") [] []

-- The lines of a message, if there is cause for it.
abbrev pub message_if : Bool → List ℕ → Message → List ℕ
message_if true program said = message program said
message_if false program said = []
