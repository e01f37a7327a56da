use Rattle.std.proofs.Common.{◌≡◌, ℕ, ◌<◌}
use Rattle.blake2_simd.specs.Family.{blake2s}
use Rattle.blake2_simd.specs.Lanes.{in_lane}
use Rattle.blake2_parallel.specs.LeafStates.{leaf_chain}
use Rattle.blake2_parallel.proofs.lanes.blake2sp.compress_in_lanes.Given as goal

abbrev pub invariant-loop-i : goal.invariant-loop-i
invariant-loop-i l =
    (j : ℕ) → j < 8
    → in_lane j l.all ≡ leaf_chain blake2s (in_lane j l.fn.rows) l.counter l.bytes j l.i
