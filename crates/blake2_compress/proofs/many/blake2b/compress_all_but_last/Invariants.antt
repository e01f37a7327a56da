use Rattle.std.proofs.Common.{◌-◌}
use Rattle.blake2_simd.specs.Family.{blake2b}
use Rattle.blake2_compress.proofs.Lanes.{no_blocks}
use Rattle.blake2_compress.proofs.ManyMessages.{HoldsForFirst, AreLaterBlocksOf}
use Rattle.blake2_compress.proofs.many.blake2b.compress_all_but_last.Given as goal

abbrev pub ghost-step_count : goal.ghost-step_count
ghost-step_count a = blake2b

abbrev pub ghost-later_blocks : goal.ghost-later_blocks
ghost-later_blocks a = blake2b

abbrev pub invariant-loop-j : goal.invariant-loop-j
invariant-loop-j l =
    HoldsForFirst 4 no_blocks (AreLaterBlocksOf blake2b l.inputs (l.count - 2)) l.later l.j
