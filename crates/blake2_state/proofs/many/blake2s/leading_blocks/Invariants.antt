-- Made by tools/twins.py from proofs/many/blake2b/leading_blocks/Invariants.antt.
use Rattle.std.proofs.Common.{◌≡◌, ◌+◌, [], take}
use Rattle.blake2_compress.proofs.ManyMessages.{HoldsForFirst}
use Rattle.blake2_state.specs.Blake2s.{pending_and_input_at}
use Rattle.blake2_state.proofs.many.blake2s.leading_blocks.Given as goal

abbrev pub invariant-loop-j : goal.invariant-loop-j
invariant-loop-j g l = HoldsForFirst g.row.N []
    (λ k x. x ≡ take 64 (pending_and_input_at l.states l.inputs (l.from + k))) l.blocks l.j
