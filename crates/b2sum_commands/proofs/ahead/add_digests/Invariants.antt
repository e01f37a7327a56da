use Rattle.std.proofs.Common.{take}
use Rattle.std.specs.List.{All, Any}
use Rattle.b2sum_commands.specs.ReadAhead.{AreDigestsOfFiles, IsDigestFor}
use Rattle.b2sum_commands.proofs.ahead.add_digests.Given as goal

abbrev pub invariant-loop-j : goal.invariant-loop-j
invariant-loop-j g l = record {
  found : AreDigestsOfFiles (g.D.Disk.files l.host.disk) g.H.Hashes.hashing l.options l.found.items;
  all : All (λ p. Any (IsDigestFor l.function p.name.items) l.found.items) (take l.j l.parts);
}
