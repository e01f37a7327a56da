-- The digests of leaves, 64 bytes each, in lines, which `leaves` prints and `root` reads.
use Rattle.std.specs.Prelude.{ℕ, ◌+◌, ◌*◌, ◌/◌, List, [], ◌∷◌, ◌++◌, length, take, drop}
use Rattle.std.specs.Prelude.{Result, Ok, Err}
use Rattle.std.specs.List.{flat_map, range_with_len}
use Rattle.std.specs.Result.{result_map_both}
use Rattle.hex.specs.Hex.{decode_sized}
use Rattle.text_lines.specs.Cuts.{lines_of}
use Rattle.blake2.specs.Streams.{line_of}
use Rattle.b2_commands.specs.declared.fault.Fault.{Fault}
use Rattle.b2_commands.specs.declared.fault.Fault.TheVariants.{WrongLine}
use Rattle.b2_commands.specs.ArgumentTasks.{and_then}

-- Digest i of joined digests of 64 bytes, from 0.
abbrev pub digest_in_joined : List ℕ → ℕ → List ℕ
digest_in_joined digests i = take 64 (drop (i * 64) digests)

-- The lines of joined digests of 64 bytes.
abbrev pub digest_lines : List ℕ → List ℕ
digest_lines digests =
    flat_map (λ i. line_of (digest_in_joined digests i)) (range_with_len 0 (length digests / 64))

-- The digest in the line with this number: 128 hexadecimal digits.
abbrev pub digest_of_numbered_line : ℕ → List ℕ → Result (List ℕ) Fault
digest_of_numbered_line number line =
    result_map_both (λ digest. digest) (λ _. WrongLine number) (decode_sized line 64)

-- The joined digests of lines, the first of which has this number.
abbrev pub digests_of_lines : ℕ → List (List ℕ) → Result (List ℕ) Fault
digests_of_lines number [] = Ok []
digests_of_lines number (line ∷ lines) =
    and_then (digest_of_numbered_line number line)
    (λ digest. and_then (digests_of_lines (number + 1) lines) (λ digests. Ok (digest ++ digests)))

-- The joined digests of a text, in a line each, or the error of its first wrong line. A text of no
-- bytes has a wrong first line.
abbrev pub read_digests : List ℕ → Result (List ℕ) Fault
read_digests [] = Err (WrongLine 1)
read_digests (b ∷ text) = digests_of_lines 1 (lines_of (b ∷ text))
