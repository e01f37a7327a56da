-- Made by tools/twins.py from proofs/lanes/blake2bp/Lanes/update/Invariants.antt.
use Rattle.std.proofs.Common.{◌+◌, length}
use Rattle.blake2_simd.specs.Family.{blake2s}
use Rattle.blake2_parallel.specs.LeafStates.{HasAbsorbedPrefix}
use Rattle.blake2_parallel.specs.Blake2sp.{HasBoundedCounts, leaves_of}
use Rattle.blake2_parallel.proofs.lanes.blake2sp.Lanes.update.Given as goal

abbrev pub invariant-loop-self : goal.invariant-loop-self
invariant-loop-self l = record {
  sound : HasBoundedCounts l.self;
  went_on : HasAbsorbedPrefix blake2s (leaves_of l.fn.self) l.input (leaves_of l.self) l.rest;
}

abbrev pub decreases-loop-self : goal.decreases-loop-self
decreases-loop-self l = l.self.length + length l.rest
