-- The lines that the program prints of transcripts and steps. 32 is a space and 10 a newline. There
-- is a space before each field.
use Rattle.std.specs.Prelude.{ℕ, Bool, true, false, List, [], ◌∷◌, ◌++◌, map, codes, decimal}
use Rattle.std.specs.Prelude.{if◌then◌else◌}
use Rattle.std.specs.Int.{to_be_bytes}
use Rattle.std.specs.List.{flat_map}
use Rattle.hex.specs.Hex.{encode_lower}
use Rattle.blake2.specs.Family.{Family, word}
use Rattle.blake2.specs.Hash.{Input, input_parameters, parameter_words, Step, steps}
use Rattle.blake2.specs.Streams.{line_of}
use Rattle.blake2.specs.Transcript.{Entry, entry}

-- Bytes of an output as they are printed: raw, as they are, or two lower-case hexadecimal digits
-- for each.
abbrev pub piece_text : Bool → List ℕ → List ℕ
piece_text true bytes = bytes
piece_text false bytes = encode_lower bytes

-- A whole output as it is printed: raw, or a line of digits.
abbrev pub output_text : Bool → List ℕ → List ℕ
output_text true bytes = bytes
output_text false bytes = line_of bytes

-- The field of a list of bytes: two lower-case hexadecimal digits for each byte.
abbrev pub bytes_field : List ℕ → List ℕ
bytes_field bytes = 32 ∷ encode_lower bytes

-- The field of a word: 16 hexadecimal digits for BLAKE2b and 8 for BLAKE2s, with leading zeros.
abbrev pub word_field : Family → ℕ → List ℕ
word_field f w = bytes_field (to_be_bytes (word f) w)

-- The fields of a list of words.
abbrev pub word_fields : Family → List ℕ → List ℕ
word_fields f words = flat_map (word_field f) words

-- The field of a number, in decimal.
abbrev pub number_field : ℕ → List ℕ
number_field n = 32 ∷ decimal n

-- The field of a flag: `1` or `0`.
abbrev pub flag_field : Bool → List ℕ
flag_field flag = if flag then codes " 1" else codes " 0"

-- The line of a transcript's parameter words.
abbrev pub parameter_words_line : Family → List ℕ → List ℕ
parameter_words_line f words = codes "w" ++ word_fields f words ++ 10 ∷ []

-- The line of an entry: its counter, final flag and block.
abbrev pub entry_line : Entry → List ℕ
entry_line e =
    codes "e" ++ number_field e.counter ++ flag_field e.flags.last ++ bytes_field e.block ++ 10 ∷ []

-- The line of a step: its chaining words, counter, final flag and block.
abbrev pub step_line : Family → Step → List ℕ
step_line f s =
    codes "s" ++ word_fields f s.chain ++ number_field s.counter ++ flag_field s.flags.last
    ++ bytes_field s.block ++ 10 ∷ []

-- The lines of the transcript of an input for a digest of n bytes: its parameter words, and each
-- step without its chaining words.
abbrev pub transcript_lines : Family → ℕ → Input → List ℕ
transcript_lines f n a =
    parameter_words_line f (parameter_words f (input_parameters n a))
    ++ flat_map entry_line (map entry (steps f n a))
