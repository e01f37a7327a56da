-- The lines of what a source returns.
use Rattle.std.specs.Prelude.{◌≡◌, ℕ, ◌==◌, false, List, [], ◌∷◌, ◌++◌, Option, Some, None}
use Rattle.std.specs.Prelude.{IfSome, is_none}
use Rattle.std.specs.Io.KnownBytes.{IsAtEnd}
use Rattle.std.specs.List.{All}
use Rattle.b2sum_commands.specs.Messages.{is_standard_input}
use Rattle.b2sum_commands.specs.declared.line_reader.LineEnd.{LineEnd}
use Rattle.b2sum_commands.specs.declared.line_reader.LineEnd.TheVariants.{Newline, Last, Failure}

-- No byte is a newline.
abbrev pub HasNoNewline : List ℕ → Type 0
HasNoNewline line = All (λ b. (b == 10) ≡ false) line

-- The line is cut off from what was unread and more bytes that were read, and what comes after its
-- newline is unread. If no newline comes after it, nothing is.
abbrev pub LineIsCutOff : LineEnd → List ℕ → List ℕ → List ℕ → List ℕ → Type 0
LineIsCutOff Newline old more line new = HasNoNewline line × (old ++ more ≡ line ++ (10 ∷ new))
LineIsCutOff Last old more line new = HasNoNewline line × (old ++ more ≡ line)
LineIsCutOff Failure old more line new = HasNoNewline line × (old ++ more ≡ line)

-- Where a source is after a line: it has `rest` left, which is nothing if it is at its end. If a
-- read failed, that is so, and what is left is not known.
abbrev pub SourceIsAfterLine : LineEnd → Option (List ℕ) → Option (List ℕ) → Type 0 → Type 0
SourceIsAfterLine Newline rest left failed = rest ≡ left
SourceIsAfterLine Last rest left failed = (rest ≡ left) × IsAtEnd left
SourceIsAfterLine Failure rest left failed = failed

-- The name of a manifest: that of its file, or of standard input if it has none.
abbrev pub source_name_or_dash : {F : Type 0} → (F → List ℕ) → Option F → List ℕ
source_name_or_dash named None = 45 ∷ []
source_name_or_dash named (Some file) = named file

-- What is left of a manifest: of its file, or of standard input if it has none.
abbrev pub source_left : {F : Type 0} → (F → Option (List ℕ)) → Option F → Option (List ℕ)
    → Option (List ℕ)
source_left left None input = input
source_left left (Some file) input = left file

-- The manifest of this name is open, and nothing of it is read: it is standard input, which has
-- `input` left, or a file that has all that it holds, if that is known.
pub record IsOpenManifest {F : Type 0} (named : F → List ℕ) (left : F → Option (List ℕ))
    (held input : Option (List ℕ)) (name : List ℕ) (file : Option F) (lines : List ℕ) : Type 0
  where
    pub is_input : is_none file ≡ is_standard_input name
    pub is_named : source_name_or_dash named file ≡ name
    pub unread : lines ≡ []
    pub whole : is_standard_input name ≡ false
        → IfSome held (λ _. source_left left file input ≡ held)
