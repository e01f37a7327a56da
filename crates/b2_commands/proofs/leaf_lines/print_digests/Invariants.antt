use Rattle.std.proofs.Common.{◌≡◌, false}
use Rattle.std.specs.List.{flat_map, range_with_len}
use Rattle.std.specs.Io.KnownBytes.{Appends}
use Rattle.blake2.specs.Streams.{line_of}
use Rattle.b2_commands.specs.LeafDigests.{digest_in_joined}
use Rattle.b2_commands.proofs.leaf_lines.print_digests.Given as goal

abbrev pub invariant-loop-i : goal.invariant-loop-i
invariant-loop-i g l = record {
  unfailed : g.K.Sink.failed l.sink ≡ false;
  printed : Appends (g.K.Sink.held l.fn.sink) (g.K.Sink.held l.sink)
      (flat_map (λ j. line_of (digest_in_joined l.digests j)) (range_with_len 0 l.i));
}
