use Rattle.std.proofs.Common.{◌≡◌, ℕ, ◌+◌, ◌*◌, ◌^◌, ◌<◌, ◌≤◌, add-one, get_or, refl, sym, ◌∙◌}
use Rattle.std.proofs.Common.{arith}
use Rattle.std.proofs.Math.Nat.{pow-suc, pow-le-pow_right}
use Rattle.std.proofs.lemmas.Bool.Decides.{nat_tests}
use Rattle.std.proofs.lemmas.Int.Digits.{digits_value_more}
use Rattle.std.proofs.lemmas.List.Folds.{list_all_more}
use Rattle.std.specs.Char.{digit_value, is_ascii_digit}
use Rattle.b2_commands.proofs.numbers.value_of.Goals as goal

-- The number of fewer than 18 digits.
number-below_10_pow_17 : (i number : ℕ) → i < 18 → number < 10 ^ i → number < 10 ^ 17
number-below_10_pow_17 i number few below =
    let most : 10 ^ i ≤ 10 ^ 17 = pow-le-pow_right {n = 10} (omega arith) {i = i} {j = 17} (omega arith) in
    omega arith

pub overflow_mul-number : goal.overflow_mul-number
overflow_mul-number c =
    let i = c.loop-digit.digit-index in
    omega (
      arith,
      number-below_10_pow_17 i c.loop-digit.number (omega arith)
          c.loop-digit.invariant.below,
    )

pub overflow_add-number : goal.overflow_add-number
overflow_add-number c =
    let i = c.loop-digit.digit-index in
    grind (
      arith,
      nat_tests,
      number-below_10_pow_17 i c.loop-digit.number (omega arith)
          c.loop-digit.invariant.below,
    )

pub loop-digit-preserved : goal.loop-digit-preserved
loop-digit-preserved c =
    let digits = c.args.digits.now in
    let i = c.loop-digit.digit-index in
    let digit : digit_value (get_or digits i 0) ≡ c.from.result = grind (arith, nat_tests) in
    let power : 10 ^ (i + 1) ≡ 10 ^ i * 10 = rw add-one (pow-suc 10 i) in
    record {
      value = omega (
        arith,
        digits_value_more 10 digits i c.loop-digit-test.true,
        digit,
        c.loop-digit.invariant.value,
      );
      digits = list_all_more is_ascii_digit digits i 0 c.loop-digit-test.true
          ∙ rw (c.loop-digit.invariant.digits, sym c.if-not-is_ascii_digit.ensures.value) refl;
      below = grind (arith, power, c.loop-digit.invariant.below);
    }
