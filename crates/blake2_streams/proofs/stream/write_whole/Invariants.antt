use Rattle.std.proofs.Common.{◌≡◌, ◌≤◌, ◌-◌, length, take, false}
use Rattle.std.specs.Io.KnownBytes.{Appends}
use Rattle.blake2_streams.proofs.stream.write_whole.Given as goal

abbrev pub invariant-writing : goal.invariant-writing
invariant-writing g l = record {
  unfailed : g.K.Sink.failed l.sink ≡ false;
  in_text : l.at ≤ length l.text;
  written : Appends (g.K.Sink.held l.fn.sink) (g.K.Sink.held l.sink) (take l.at l.text);
}

abbrev pub decreases-writing : goal.decreases-writing
decreases-writing g l = length l.text - l.at
