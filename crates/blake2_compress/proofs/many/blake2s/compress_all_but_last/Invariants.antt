-- Made by tools/twins.py from proofs/many/blake2b/eight/compress_all_but_last/Invariants.antt.
use Rattle.std.proofs.Common.{◌-◌}
use Rattle.blake2_simd.specs.Family.{blake2s}
use Rattle.blake2_compress.proofs.Lanes.{no_blocks}
use Rattle.blake2_compress.proofs.ManyMessages.{HoldsForFirst, AreLaterBlocksOf}
use Rattle.blake2_compress.proofs.many.blake2s.compress_all_but_last.Given as goal

abbrev pub ghost-step_count : goal.ghost-step_count
ghost-step_count a = blake2s

abbrev pub ghost-later_blocks : goal.ghost-later_blocks
ghost-later_blocks a = blake2s

abbrev pub invariant-loop-j : goal.invariant-loop-j
invariant-loop-j l =
    HoldsForFirst 8 no_blocks (AreLaterBlocksOf blake2s l.inputs (l.count - 2)) l.later l.j
