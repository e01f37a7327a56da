use Rattle.std.proofs.Common.{◌+◌, length}
use Rattle.blake2_simd.specs.Family.{blake2b}
use Rattle.blake2_parallel.specs.LeafStates.{HasAbsorbedPrefix}
use Rattle.blake2_parallel.specs.Blake2bp.{HasBoundedCounts, leaves_of}
use Rattle.blake2_parallel.proofs.lanes.blake2bp.Lanes.update.Given as goal

abbrev pub invariant-loop-self : goal.invariant-loop-self
invariant-loop-self l = record {
  sound : HasBoundedCounts l.self;
  went_on : HasAbsorbedPrefix blake2b (leaves_of l.fn.self) l.input (leaves_of l.self) l.rest;
}

abbrev pub decreases-loop-self : goal.decreases-loop-self
decreases-loop-self l = l.self.length + length l.rest
