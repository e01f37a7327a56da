-- Made by tools/twins.py from proofs/many/blake2b/fewest_bytes/Invariants.antt.
use Rattle.std.proofs.Common.{◌+◌, ◌<◌, ◌≤◌, ℕ, length}
use Rattle.blake2_state.specs.Blake2s.{pending_and_input_at}
use Rattle.blake2_state.proofs.many.blake2s.fewest_bytes.Given as goal

-- None yet, or the least of those that were looked at.
abbrev pub invariant-loop-j : goal.invariant-loop-j
invariant-loop-j l = (k : ℕ) → k < l.j
    → l.fewest ≤ length (pending_and_input_at l.states l.inputs (l.from + k))
