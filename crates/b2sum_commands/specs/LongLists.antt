-- Lists that are read as a whole, and have too many bytes for that.
use Rattle.std.specs.Prelude.{ℕ, ◌<◌, List, length, codes, Option}
use Rattle.std.specs.Io.KnownBytes.{Consumes}

-- A list has more bytes than these, and is not read.
abbrev pub HasMoreBytesThan : Option (List ℕ) → ℕ → Type 0
HasMoreBytesThan held most = (bytes : List ℕ) × (end : Option (List ℕ)) × Consumes held end bytes
    × (most < length bytes)

-- Why a list is not read.
abbrev pub list_too_long_reason : List ℕ
list_too_long_reason = codes "the list has more than 268435456 bytes"
