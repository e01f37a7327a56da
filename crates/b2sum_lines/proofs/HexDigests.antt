-- The digests of hexadecimal digits.
use Rattle.std.proofs.Common.{◌≡◌, ℕ, ◌*◌, ◌<◌, List, length, None, Result, Ok, Err, refl}
use Rattle.std.proofs.Common.{arith, Bool, true, false, ◌&&◌, if◌then◌else◌, Some, nat_lt}
use Rattle.std.proofs.lemmas.Bool.{lt-leb}
use Rattle.hex.proofs.HexLemmas.{decode_of-ok}
use Rattle.hex.specs.Hex.{decode_of}
use Rattle.hex.specs.declared.error.FromHexError.{FromHexError}
use Rattle.b2sum_lines.specs.ManifestLines.{digest_if_length_fits, digest_of_digits, max_bytes}
use Rattle.b2sum_lines.specs.declared.entry.Algorithm.{Algorithm}

if_and_false-is_none : (b : Bool) (bytes : List ℕ) → (if b && false then Some bytes else None)
    ≡ None
if_and_false-is_none true bytes = refl
if_and_false-is_none false bytes = refl

-- More digits than the longest digest has are no digest.
pub too_many_digits-no_digest : (a : Algorithm) (digits : List ℕ) → 2 * max_bytes a < length digits
    → digest_of_digits a digits ≡ None
too_many_digits-no_digest a digits many = go (decode_of digits) refl
  where
    go : (r : Result (List ℕ) FromHexError) → decode_of digits ≡ r → digest_if_length_fits a r
        ≡ None
    go (Ok bytes) is =
        let long : length digits ≡ 2 * length bytes = (decode_of-ok digits bytes is).2 in
        let less : max_bytes a < length bytes = omega (arith, many, long) in
        rw (lt-leb (length bytes) (max_bytes a) less)
        (if_and_false-is_none (nat_lt 0 (length bytes)) bytes)
    go (Err e) is = refl
