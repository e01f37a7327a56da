-- Lines of other hash functions.
use Rattle.std.specs.Prelude.{ℕ, ◌||◌, nat_eq, Bool, List, codes}
use Rattle.std.specs.List.{starts_with}

-- The line is one of another hash function: it begins as a tagged line of that does.
abbrev pub is_line_of_other_hash : List ℕ → Bool
is_line_of_other_hash line =
    starts_with nat_eq line (codes "MD5 (")
    || (starts_with nat_eq line (codes "SHA1 (")
    || (starts_with nat_eq line (codes "SHA224 (")
    || (starts_with nat_eq line (codes "SHA256 (")
    || (starts_with nat_eq line (codes "SHA384 (")
    || (starts_with nat_eq line (codes "SHA512 (")
    || (starts_with nat_eq line (codes "SHA3-")
    || (starts_with nat_eq line (codes "SM3 (") || starts_with nat_eq line (codes "BLAKE3 ("))))))))
