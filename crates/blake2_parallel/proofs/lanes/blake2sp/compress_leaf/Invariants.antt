-- Made by tools/twins.py from proofs/lanes/blake2bp/compress_leaf/Invariants.antt.
use Rattle.std.proofs.Common.{◌≡◌}
use Rattle.blake2_simd.specs.Family.{blake2s}
use Rattle.blake2_simd.specs.Rows.{chaining_words}
use Rattle.blake2_parallel.specs.LeafStates.{leaf_chain}
use Rattle.blake2_parallel.proofs.lanes.blake2sp.compress_leaf.Given as goal

abbrev pub invariant-loop-i : goal.invariant-loop-i
invariant-loop-i l = chaining_words l.words ≡ leaf_chain blake2s (chaining_words l.fn.h) l.counter l.bytes l.j l.i
