-- Made by tools/twins.py from proofs/blake2b/many/write_all/Invariants.antt.
use Rattle.std.proofs.Common.{◌≡◌, ◌-◌, ◌*◌, ◌≤◌, ◌++◌, length, take, drop}
use Rattle.blake2.specs.Family.{blake2s}
use Rattle.blake2_ffi.specs.SeveralMessages.{digests_by_state_parameters}
use Rattle.blake2_ffi.proofs.blake2s.many.write_all.Given as goal

-- The digests of the first messages are written, and what follows them is as it was.
abbrev pub invariant-loop-done : goal.invariant-loop-done
invariant-loop-done l = record {
  within : l.done ≤ length l.messages;
  long : length l.out ≡ length l.fn.out;
  written : l.out ≡ digests_by_state_parameters blake2s l.given (take l.done l.messages)
      ++ drop (l.done * l.given.output_size) l.fn.out;
}

abbrev pub decreases-loop-done : goal.decreases-loop-done
decreases-loop-done l = length l.messages - l.done
