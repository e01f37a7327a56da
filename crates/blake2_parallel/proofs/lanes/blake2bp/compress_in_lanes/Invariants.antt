use Rattle.std.proofs.Common.{◌≡◌, ℕ, ◌<◌}
use Rattle.blake2_simd.specs.Family.{blake2b}
use Rattle.blake2_simd.specs.Lanes.{in_lane}
use Rattle.blake2_parallel.specs.LeafStates.{leaf_chain}
use Rattle.blake2_parallel.proofs.lanes.blake2bp.compress_in_lanes.Given as goal

abbrev pub invariant-loop-i : goal.invariant-loop-i
invariant-loop-i l =
    (j : ℕ) → j < 4
    → in_lane j l.all ≡ leaf_chain blake2b (in_lane j l.fn.rows) l.counter l.bytes j l.i
