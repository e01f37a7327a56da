-- A number whose last digits are written.
use Rattle.std.proofs.Common.{◌≡◌, ℕ, ◌+◌, ◌-◌, ◌/◌, ◌%◌, ◌^◌, ◌<◌, ◌≤◌, List, [], ◌∷◌, ◌++◌}
use Rattle.std.proofs.Common.{length, drop}
use Rattle.std.proofs.Common.{decimal, slice_set, sym, ap, ◌∙◌, arith, append_assoc, length-append}
use Rattle.std.proofs.lemmas.Fmt.{decimal_nonempty, decimal_digit, decimal_step, length-decimal-le}
use Rattle.std.proofs.lemmas.List.{drop-set, length-drop}

-- While a digit is left, there is room for it.
pub place_left-for_digit : (n rest start : ℕ) (out : List ℕ) → n < 2 ^ 64 → rest < 2 ^ 64
    → length out ≡ 20
    → start ≤ 20 → decimal n ≡ decimal rest ++ drop start out → 1 ≤ start
place_left-for_digit n rest start out small fits size within digits =
    omega (
      arith,
      length-decimal-le 20 n (omega arith) (omega arith) small,
      decimal_nonempty rest fits,
      ap length digits,
      length-append (decimal rest) (drop start out),
      length-drop start out,
      size,
    )

-- The last digit of the rest is written before the others.
pub decimal-last_digit_written : (n rest start : ℕ) (out : List ℕ) → rest < 2 ^ 64 → 10 ≤ rest
    → length out ≡ 20
    → 1 ≤ start → start ≤ 20 → decimal n ≡ decimal rest ++ drop start out
    → decimal n ≡ decimal (rest / 10) ++ drop (start - 1) (slice_set out (start - 1) (48 + rest % 10))
decimal-last_digit_written n rest start out fits many size some within digits =
    let next : start - 1 + 1 ≡ start = omega arith in
    digits
    ∙ ap (λ ds. ds ++ drop start out) (decimal_step rest many fits)
    ∙ append_assoc (decimal (rest / 10)) ((48 + rest % 10) ∷ []) (drop start out)
    ∙ ap (λ ds. decimal (rest / 10) ++ ds)
    (sym (drop-set out (start - 1) (48 + rest % 10) (omega (arith, size))
    ∙ ap (λ k. (48 + rest % 10) ∷ drop k out) next))

-- The first digit is written before the others.
pub decimal-first_digit_written : (n rest start : ℕ) (out : List ℕ) → rest < 10 → length out ≡ 20
    → 1 ≤ start → start ≤ 20 → decimal n ≡ decimal rest ++ drop start out
    → drop (start - 1) (slice_set out (start - 1) (48 + rest)) ≡ decimal n
decimal-first_digit_written n rest start out few size some within digits =
    let next : start - 1 + 1 ≡ start = omega arith in
    drop-set out (start - 1) (48 + rest) (omega (arith, size))
    ∙ ap (λ k. (48 + rest) ∷ drop k out) next
    ∙ sym (digits ∙ ap (λ ds. ds ++ drop start out) (decimal_digit rest few))
