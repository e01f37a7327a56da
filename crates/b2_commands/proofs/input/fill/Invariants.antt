use Rattle.std.proofs.Common.{◌≡◌, ◌-◌, ◌≤◌, false, length, take}
use Rattle.std.specs.Io.KnownBytes.{Consumes}
use Rattle.b2_commands.proofs.input.fill.Given as goal

-- The front of the buffer has what the source returned.
abbrev pub invariant-filling : goal.invariant-filling
invariant-filling g l = record {
  unfailed : g.S.Source.failed l.source ≡ false;
  size : length l.buffer ≡ length l.fn.buffer;
  within : l.at ≤ length l.buffer;
  passed : Consumes (g.S.Source.left l.fn.source) (g.S.Source.left l.source) (take l.at l.buffer);
}

abbrev pub decreases-filling : goal.decreases-filling
decreases-filling g l = length l.buffer - l.at
