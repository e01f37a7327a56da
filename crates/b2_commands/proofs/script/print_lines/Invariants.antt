use Rattle.std.proofs.Common.{◌≡◌, false, map, take}
use Rattle.std.specs.List.{flat_map}
use Rattle.std.specs.Io.KnownBytes.{Appends}
use Rattle.blake2.specs.Streams.{line_of}
use Rattle.b2_commands.proofs.script.print_lines.Given as goal

abbrev pub invariant-loop-digest : goal.invariant-loop-digest
invariant-loop-digest g l = record {
  unfailed : g.K.Sink.failed l.sink ≡ false;
  printed : Appends (g.K.Sink.held l.fn.sink) (g.K.Sink.held l.sink)
      (flat_map line_of (map (take l.size) (take l.digest-index l.digests)));
}
