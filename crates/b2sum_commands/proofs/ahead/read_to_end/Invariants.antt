use Rattle.std.proofs.Common.{◌≡◌, ◌≤◌, ◌-◌, length, take}
use Rattle.std.specs.Io.KnownBytes.{Consumes}
use Rattle.b2sum_commands.proofs.ahead.read_to_end.Given as goal

abbrev pub invariant-reading : goal.invariant-reading
invariant-reading g l = record {
  bound : l.count ≤ length l.out;
  room : length l.out ≡ length l.fn.out;
  given : Consumes (g.S.OpenFile.left l.fn.source) (g.S.OpenFile.left l.source)
      (take l.count l.out);
}

abbrev pub decreases-reading : goal.decreases-reading
decreases-reading g l = length l.initial.out - l.count
