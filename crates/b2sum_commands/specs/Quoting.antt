-- Names and values in messages, quoted as a shell reads them. Codes: 34 is a double quote, 35 `#`,
-- 39 a single quote, 92 a backslash, 123 and 125 the braces, 126 `~`.
use Rattle.std.specs.Prelude.{ℕ, ◌+◌, ◌/◌, ◌%◌, ◌==◌, ◌&&◌, ◌||◌, Bool, true, false, not}
use Rattle.std.specs.Prelude.{nat_lt, nat_le, if◌then◌else◌, List, [], ◌∷◌, ◌++◌, codes}
use Rattle.std.specs.List.{list_any, list_all, flat_map}

-- A byte that is printed as it is, in the locale C.
abbrev pub is_printable : ℕ → Bool
is_printable b = nat_le 32 b && nat_lt b 127

-- A byte for which a name is quoted: one with a meaning for a shell, a colon, or one that is not
-- printed.
abbrev pub is_shell_special : ℕ → Bool
is_shell_special b = list_any (λ x. x == b) (codes " !\"$&'()*:;<=>?[\\^`|") || not (is_printable b)

-- A byte with a meaning for a shell at the front of a name.
abbrev pub is_special_at_front : ℕ → Bool
is_special_at_front b = (b == 35) || (b == 126)

-- A byte with a meaning for a shell if it is the whole name.
abbrev pub is_brace : ℕ → Bool
is_brace b = (b == 123) || (b == 125)

-- The name is a brace.
abbrev pub is_lone_brace : ℕ → List ℕ → Bool
is_lone_brace b [] = is_brace b
is_lone_brace b (c ∷ rest) = false

-- The name is quoted.
abbrev pub needs_quotes : List ℕ → Bool
needs_quotes [] = true
needs_quotes (b ∷ rest) = is_special_at_front b
    || (is_lone_brace b rest || list_any is_shell_special (b ∷ rest))

-- A letter or a digit.
abbrev pub is_alphanumeric : ℕ → Bool
is_alphanumeric b =
    (nat_le 48 b && nat_le b 57) || ((nat_le 65 b && nat_le b 90) || (nat_le 97 b && nat_le b 122))

-- A byte that may be in a name between double quotes.
abbrev pub is_plain_in_double_quotes : ℕ → Bool
is_plain_in_double_quotes b = is_alphanumeric b || list_any (λ x. x == b) (codes " %'+,-./:]_")

-- The name may be between double quotes.
abbrev pub fits_double_quotes : List ℕ → Bool
fits_double_quotes [] = true
fits_double_quotes (b ∷ rest) = (is_special_at_front b || is_plain_in_double_quotes b)
    && list_all is_plain_in_double_quotes rest

-- The name is between double quotes: it has a single quote, and all its bytes are plain.
abbrev pub takes_double_quotes : List ℕ → Bool
takes_double_quotes name = list_any (λ b. b == 39) name && fits_double_quotes name

-- The letter of a byte that has one: of 7 to 13.
abbrev pub escape_letter : ℕ → ℕ
escape_letter b =
    if b == 7 then 97
    else if b == 8 then 98
    else if b == 9 then 116
    else if b == 10 then 110
    else if b == 11 then 118
    else if b == 12 then 102
    else 114

-- The three octal digits of a byte.
abbrev pub octal : ℕ → List ℕ
octal b = (48 + b / 64) ∷ (48 + b / 8 % 8) ∷ (48 + b % 8) ∷ []

-- A byte that is not printed: a backslash, and its letter or its octal digits.
abbrev pub escape_code : ℕ → List ℕ
escape_code b = 92 ∷ (if nat_le 7 b && nat_le b 13 then escape_letter b ∷ [] else octal b)

-- A byte between single quotes. Before a byte that is not printed, `$'..'` is open or is opened;
-- it is closed before one that is.
abbrev pub quoted_byte : Bool → ℕ → List ℕ
quoted_byte is_open b =
    if b == 39 then codes "'\\''"
    else if is_printable b then (if is_open then codes "''" else []) ++ (b ∷ [])
    else (if is_open then [] else codes "'$'") ++ escape_code b

-- The bytes of a name between single quotes.
abbrev pub quoted_bytes : Bool → List ℕ → List ℕ
quoted_bytes is_open [] = []
quoted_bytes is_open (b ∷ rest) =
    quoted_byte is_open b ++ quoted_bytes (not (is_printable b)) rest

-- A name as messages have it: as it is, between double quotes, or between single quotes.
abbrev pub quoted_name : List ℕ → List ℕ
quoted_name name =
    if not (needs_quotes name) then name
    else if takes_double_quotes name then 34 ∷ (name ++ (34 ∷ []))
    else 39 ∷ (quoted_bytes false name ++ (39 ∷ []))

-- A byte of a value: a quote and a backslash have a backslash before them.
abbrev pub escaped_value_byte : ℕ → List ℕ
escaped_value_byte b =
    if (b == 39) || (b == 92) then 92 ∷ b ∷ []
    else if is_printable b then b ∷ []
    else escape_code b

-- A value as messages have it.
abbrev pub quoted_value : List ℕ → List ℕ
quoted_value value = 39 ∷ (flat_map escaped_value_byte value ++ (39 ∷ []))
