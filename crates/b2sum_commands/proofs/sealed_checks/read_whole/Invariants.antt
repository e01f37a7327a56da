use Rattle.std.proofs.Common.{◌≡◌, ◌<◌, length}
use Rattle.std.specs.Io.KnownBytes.{Consumes}
use Rattle.b2sum_commands.proofs.sealed_checks.read_whole.Given as goal

abbrev pub invariant-loop : goal.invariant-loop
invariant-loop g l = record {
  given : Consumes (g.S.OpenFile.left l.fn.source) (g.S.OpenFile.left l.source) l.list.items;
  name : g.S.OpenFile.named l.source ≡ g.S.OpenFile.named l.fn.source;
  room : 0 < length l.piece;
}
