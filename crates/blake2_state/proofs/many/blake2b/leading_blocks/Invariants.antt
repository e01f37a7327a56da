use Rattle.std.proofs.Common.{◌≡◌, ◌+◌, [], take}
use Rattle.blake2_compress.proofs.ManyMessages.{HoldsForFirst}
use Rattle.blake2_state.specs.Blake2b.{pending_and_input_at}
use Rattle.blake2_state.proofs.many.blake2b.leading_blocks.Given as goal

abbrev pub invariant-loop-j : goal.invariant-loop-j
invariant-loop-j g l = HoldsForFirst g.row.N []
    (λ k x. x ≡ take 128 (pending_and_input_at l.states l.inputs (l.from + k))) l.blocks l.j
