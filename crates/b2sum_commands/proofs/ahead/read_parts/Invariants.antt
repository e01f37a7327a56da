use Rattle.std.proofs.Common.{◌≤◌, length}
use Rattle.std.specs.List.{All}
use Rattle.b2sum_commands.specs.ReadAhead.{PartHasFileText}
use Rattle.b2sum_commands.proofs.ahead.read_parts.Given as goal

abbrev pub invariant-loop-name : goal.invariant-loop-name
invariant-loop-name g l = record {
  place : l.at ≤ length l.room;
  parts : All (PartHasFileText (g.D.Disk.files l.host.disk) l.room l.at) l.parts.items;
}
