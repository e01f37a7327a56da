-- What is read from a source and written to a sink.
use Rattle.std.specs.Prelude.{◌≡◌, ℕ, ◌<◌, List, [], ◌∷◌, ◌++◌, length, Option}
use Rattle.std.specs.Io.KnownBytes.{Consumes, IsAtEnd, Appends}
use Rattle.hex.specs.Hex.{encode_lower}
use Rattle.blake2_digest.specs.Texts.{AreBytes}

-- The line of a digest: two lower-case hexadecimal digits for each byte, and a newline.
abbrev pub line_of : List ℕ → List ℕ
line_of digest = encode_lower digest ++ (10 ∷ [])

-- A source returned these bytes, and is at its end.
pub record ReturnsAllBytes (old new : Option (List ℕ)) (bytes : List ℕ) : Type 0 where
  pub are_bytes : AreBytes bytes
  pub given : Consumes old new bytes
  pub at_end : IsAtEnd new

-- A sink accepted the beginning of these bytes, and not all of them.
abbrev pub AcceptsProperPrefix : Option (List ℕ) → Option (List ℕ) → List ℕ → Type 0
AcceptsProperPrefix old new text =
    (part : List ℕ) × (rest : List ℕ) × (text ≡ part ++ rest) × (0 < length rest)
    × Appends old new part
