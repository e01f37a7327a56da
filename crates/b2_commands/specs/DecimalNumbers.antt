-- Decimal numbers. 48 is the digit 0.
use Rattle.std.specs.Prelude.{ℕ, Bool, ◌==◌, ◌&&◌, ◌||◌, not, nat_lt, if◌then◌else◌, List, length}
use Rattle.std.specs.Prelude.{Option, Some, None, slice_index}
use Rattle.std.specs.Char.{is_ascii_digit}
use Rattle.std.specs.List.{list_all}
use Rattle.std.specs.Str.Parse.{digits_value}

-- Whether the bytes are a number of at most `most` decimal digits, with no leading zero.
abbrev pub is_number : ℕ → List ℕ → Bool
is_number most digits =
    nat_lt 0 (length digits) &&
    (not (nat_lt most (length digits)) &&
    (list_all is_ascii_digit digits && ((length digits == 1) || not (slice_index digits 0 == 48))))

-- The number that these digits are, if they are one of at most `most` digits with no leading zero.
abbrev pub number_value : ℕ → List ℕ → Option ℕ
number_value most digits = if is_number most digits then Some (digits_value 10 digits) else None
