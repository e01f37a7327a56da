use Rattle.std.proofs.Common.{arith, rules}
use Rattle.blake2_simd.specs.Family.{blake2b}
use Rattle.blake2_compress.proofs.ManyMessages.{AcceptsAtOnce-first, AcceptsAtOnce-next}
use Rattle.blake2_compress.proofs.many.blake2b.accepts_four.Goals as goal

pub loop-j-init : goal.loop-j-init
loop-j-init c = AcceptsAtOnce-first blake2b c.args.inputs.now (search rules)

pub loop-j-preserved : goal.loop-j-preserved
loop-j-preserved c =
    AcceptsAtOnce-next blake2b c.loop-j.j c.args.inputs.now c.loop-j.invariant (search rules)
    (omega (arith, c.counted.ensures, c.counted-count.ensures, c.if-counted-count.false))
