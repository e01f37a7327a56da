use Rattle.std.proofs.Common.{◌≡◌, ◌+◌, drop}
use Rattle.std.specs.Simd.{first_chunks}
use Rattle.blake2_compress.proofs.Lanes.{no_blocks}
use Rattle.blake2_compress.proofs.ManyMessages.{HoldsForFirst}
use Rattle.blake2_state.specs.Blake2b.{pending_and_input_at}
use Rattle.blake2_state.proofs.many.blake2b.later_four.Given as goal

abbrev pub invariant-loop-j : goal.invariant-loop-j
invariant-loop-j l = HoldsForFirst 4 no_blocks
    (λ k x. x.now ≡ first_chunks 128 l.count (drop 128 (pending_and_input_at l.states l.inputs (l.from + k))))
    l.blocks l.j
