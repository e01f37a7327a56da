use Rattle.std.proofs.Common.{arith, rules}
use Rattle.text_lines.proofs.NumberDigits.{place_left-for_digit, decimal-last_digit_written}
use Rattle.text_lines.proofs.NumberDigits.{decimal-first_digit_written}
use Rattle.text_lines.proofs.numbers.write_decimal.Goals as goal

pub overflow_sub-start : goal.overflow_sub-start
overflow_sub-start c =
    place_left-for_digit c.args.n c.digits.rest c.digits.start c.digits.out c.ranges.n.fits
    c.digits.auto.rest-fits.fits c.digits.invariant.size c.digits.invariant.within
    c.digits.invariant.digits

pub digits-preserved : goal.digits-preserved
digits-preserved c =
    let some = place_left-for_digit c.args.n c.digits.rest c.digits.start c.digits.out
    c.ranges.n.fits
    c.digits.auto.rest-fits.fits c.digits.invariant.size c.digits.invariant.within
    c.digits.invariant.digits in
    record {
      size = search (rules, c.digits.invariant.size);
      within = omega (arith, c.digits.invariant.within);
      digits = decimal-last_digit_written c.args.n c.digits.rest c.digits.start c.digits.out
          c.digits.auto.rest-fits.fits c.digits-test.true c.digits.invariant.size some
          c.digits.invariant.within c.digits.invariant.digits;
    }

pub overflow_sub-start-2 : goal.overflow_sub-start-2
overflow_sub-start-2 c =
    place_left-for_digit c.args.n c.digits.rest c.digits.start c.digits.out c.ranges.n.fits
    c.digits.auto.rest-fits.fits c.digits.invariant.size c.digits.invariant.within
    c.digits.invariant.digits

pub returns-clause-digits : goal.returns-clause-digits
returns-clause-digits c =
    let some = place_left-for_digit c.args.n c.digits.rest c.digits.start c.digits.out
    c.ranges.n.fits
    c.digits.auto.rest-fits.fits c.digits.invariant.size c.digits.invariant.within
    c.digits.invariant.digits in
    decimal-first_digit_written c.args.n c.digits.rest c.digits.start c.digits.out
    c.digits-test.false
    c.digits.invariant.size some c.digits.invariant.within c.digits.invariant.digits
