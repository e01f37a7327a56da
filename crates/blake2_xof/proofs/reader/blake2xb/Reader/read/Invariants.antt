use Rattle.std.proofs.Common.{◌≡◌, ◌-◌, ◌≤◌, length, take, drop}
use Rattle.blake2_xof.specs.Blake2xb.{HasRead, IsReadable, output_of}
use Rattle.blake2_xof.proofs.reader.blake2xb.Reader.read.Given as goal

-- The first bytes are read, and the position is after them.
abbrev pub invariant-loop-done : goal.invariant-loop-done
invariant-loop-done l = record {
  within : l.done ≤ length l.fn.out;
  long : length l.out ≡ length l.fn.out;
  ready : IsReadable l.self;
  read : HasRead l.fn.self l.done l.self;
  written : take l.done l.out ≡ take l.done (drop l.fn.self.position (output_of l.fn.self));
}

abbrev pub decreases-loop-done : goal.decreases-loop-done
decreases-loop-done l = length l.fn.out - l.done
