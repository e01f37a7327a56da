-- Lists of bytes. The numbers of a definition have no upper bound, so a definition has to say that
-- a list has only bytes. A byte has 8 bits (RFC 7693, section 2.4).
use Rattle.std.specs.Prelude.{ℕ, ◌-◌, ◌<◌, List, ◌++◌, length, replicate, slice_index}

-- Every element is a byte, a number below 256.
abbrev pub AreBytes : List ℕ → Type 0
AreBytes xs = (i : ℕ) → slice_index xs i < 256

-- The list xs, padded with zeros to n bytes (RFC 7693, section 3.3). A longer list is unchanged.
unfoldable pub padded : ℕ → List ℕ → List ℕ
padded n xs = xs ++ replicate (n - length xs) 0
