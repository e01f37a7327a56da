-- Made by tools/twins.py from proofs/many/blake2b/eight/accepts_eight/Invariants.antt.
use Rattle.blake2_simd.specs.Family.{blake2s}
use Rattle.blake2_compress.specs.Lanes.{AcceptsAtOnce}
use Rattle.blake2_compress.proofs.many.blake2s.accepts_eight.Given as goal

abbrev pub ghost-counted : goal.ghost-counted
ghost-counted a = blake2s

abbrev pub invariant-loop-j : goal.invariant-loop-j
invariant-loop-j l = AcceptsAtOnce blake2s l.j l.inputs
