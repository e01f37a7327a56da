use Rattle.blake2_simd.specs.Family.{blake2b}
use Rattle.blake2_compress.specs.Lanes.{AcceptsAtOnce}
use Rattle.blake2_compress.proofs.many.blake2b.eight.accepts_eight.Given as goal

abbrev pub ghost-counted : goal.ghost-counted
ghost-counted a = blake2b

abbrev pub invariant-loop-j : goal.invariant-loop-j
invariant-loop-j l = AcceptsAtOnce blake2b l.j l.inputs
