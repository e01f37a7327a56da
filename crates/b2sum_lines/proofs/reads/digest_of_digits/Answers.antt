use Rattle.std.proofs.Common.{sym, arith}
use Rattle.b2sum_lines.proofs.HexDigests.{too_many_digits-no_digest}
use Rattle.b2sum_lines.proofs.reads.digest_of_digits.Goals as goal

pub returns-then-digits-max_bytes-clause-digest : goal.returns-then-digits-max_bytes-clause-digest
returns-then-digits-max_bytes-clause-digest c = sym
    (too_many_digits-no_digest c.args.algorithm c.args.digits.now
    (omega (arith, c.if-digits-max_bytes.true, c.max_bytes.ensures.is)))
