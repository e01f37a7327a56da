-- The key that the bytes of a key file have.
use Rattle.std.specs.Prelude.{ℕ, ◌+◌, ◌-◌, ◌*◌, ◌==◌, ◌&&◌, nat_le, Bool, true, false, not}
use Rattle.std.specs.Prelude.{if◌then◌else◌, List, [], ◌∷◌, length, take, get_or}
use Rattle.std.specs.Prelude.{Option, Some, None}
use Rattle.std.specs.List.{list_all}
use Rattle.std.specs.Option.{option_and_then}
use Rattle.std.specs.Result.{result_ok}
use Rattle.hex.specs.Hex.{decode_of, is_hex_digit}

-- A text that has bytes, without one newline at its end.
abbrev pub without_last_newline : List ℕ → List ℕ
without_last_newline text =
    if get_or text (length text - 1) 0 == 10 then take (length text - 1) text else text

-- A text without one newline at its end.
abbrev pub without_final_newline : List ℕ → List ℕ
without_final_newline [] = []
without_final_newline (b ∷ text) = without_last_newline (b ∷ text)

-- The key, if it has at least one byte and at most so many.
abbrev pub key_if_fitting : ℕ → List ℕ → Option (List ℕ)
key_if_fitting most key =
    if not (length key == 0) && nat_le (length key) most then Some key else None

-- The key of the bytes of a key file, of at most so many bytes: these bytes, or, if they are to be
-- hexadecimal digits of either case, with a newline after them or none, the bytes that these write.
abbrev pub key_of_file_bytes : Bool → ℕ → List ℕ → Option (List ℕ)
key_of_file_bytes false most bytes = key_if_fitting most bytes
key_of_file_bytes true most bytes =
    option_and_then (key_if_fitting most) (result_ok (decode_of (without_final_newline bytes)))

-- The most bytes that a file with a key of at most so many bytes has: the key, or two digits for
-- each byte and a newline.
abbrev pub max_key_file_bytes : Bool → ℕ → ℕ
max_key_file_bytes false most = most
max_key_file_bytes true most = 2 * most + 1

-- There are only hexadecimal digits, at least one, with a newline after them or none.
abbrev pub are_digits : List ℕ → Bool
are_digits bytes =
    not (length (without_final_newline bytes) == 0)
    && list_all is_hex_digit (without_final_newline bytes)
