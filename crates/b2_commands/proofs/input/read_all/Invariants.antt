use Rattle.std.proofs.Common.{◌≡◌, ◌-◌, ◌^◌, false, vec_len}
use Rattle.std.specs.Io.KnownBytes.{Consumes}
use Rattle.b2_commands.proofs.input.read_all.Given as goal

abbrev pub invariant-reading : goal.invariant-reading
invariant-reading g l = record {
  unfailed : g.S.Source.failed l.source ≡ false;
  passed : Consumes (g.S.Source.left l.fn.source) (g.S.Source.left l.source) l.bytes.items;
}

abbrev pub decreases-reading : goal.decreases-reading
decreases-reading g l = 2 ^ 64 - vec_len l.bytes
