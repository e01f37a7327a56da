use Rattle.std.proofs.Common.{◌≡◌}
use Rattle.std.specs.Io.KnownBytes.{Consumes}
use Rattle.b2sum_commands.proofs.key.read_bytes.Given as goal

abbrev pub invariant-loop : goal.invariant-loop
invariant-loop g l = record {
  given : Consumes (g.S.OpenFile.left l.fn.source) (g.S.OpenFile.left l.source) l.bytes.items;
  name : g.S.OpenFile.named l.source ≡ g.S.OpenFile.named l.fn.source;
}
