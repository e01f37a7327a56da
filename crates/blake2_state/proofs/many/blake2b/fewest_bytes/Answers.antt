use Rattle.std.proofs.Common.{◌≡◌, ◌+◌, ◌≤◌, length, below_more, arith}
use Rattle.blake2_state.specs.Blake2b.{pending_and_input_at, pending_and_input}
use Rattle.blake2_state.proofs.ManyBlake2b.{slice_index-holds_by_get_or}
use Rattle.blake2_state.proofs.many.blake2b.fewest_bytes.Goals as goal

pub loop-j-preserved : goal.loop-j-preserved
loop-j-preserved c =
    let states = c.args.states.now in
    let inputs = c.args.inputs.now in
    let left = slice_index-holds_by_get_or (λ s x. c.bytes_left.result
    ≡ length (pending_and_input s x)) states inputs
    (c.args.from + c.loop-j.j) _ _ (omega (arith, c.requires.states, c.loop-j-test.true))
    (omega (arith, c.requires.inputs, c.loop-j-test.true)) c.bytes_left.ensures in
    below_more (λ k. c.min-fewest.result ≤ length
    (pending_and_input_at states inputs (c.args.from + k)))
    c.loop-j.j (λ k lt. omega (arith, c.loop-j.invariant k lt, c.min-fewest.ensures))
    (omega (arith, left, c.min-fewest.ensures))
