-- The paths that files are opened by.
use Rattle.std.specs.Prelude.{ℕ, ◌+◌, ◌==◌, ◌&&◌, Bool, nat_lt, not, if◌then◌else◌, List}
use Rattle.std.specs.Prelude.{encode_utf8}
use Rattle.std.specs.List.{flat_map, list_any}
use Rattle.std.specs.Str.{is_utf8}

-- The character of a byte of a name that is not text: an ASCII byte itself, and U+10FF00 more for
-- another.
abbrev pub character_of : ℕ → ℕ
character_of b = if nat_lt b 128 then b else 1113856 + b

-- A name is text if it is UTF-8, and has no byte 0xF4, with which those characters begin.
abbrev pub is_plain_name : List ℕ → Bool
is_plain_name name = not (list_any (λ b. b == 244) name) && is_utf8 name

-- The path of a name: the name itself, if it is text, and else the characters of its bytes, in
-- UTF-8.
abbrev pub path_of : List ℕ → List ℕ
path_of name =
    if is_plain_name name then name else flat_map (λ b. encode_utf8 (character_of b)) name
