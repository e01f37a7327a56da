use Rattle.std.proofs.Common.{◌≡◌, ◌+◌, ◌-◌, ◌≤◌, false, take, drop}
use Rattle.std.specs.Io.KnownBytes.{Appends}
use Rattle.blake2_xof.specs.Blake2xb.{IsReady, output_now}
use Rattle.b2_commands.specs.PrintedLines.{piece_text}
use Rattle.b2_commands.proofs.outputs.blake2xb.print_next.Given as goal

-- What was read is printed.
abbrev pub invariant-printing : goal.invariant-printing
invariant-printing g l = record {
  ready : IsReady l.state;
  within : l.left ≤ l.fn.count;
  output : output_now l.state ≡ output_now l.fn.state;
  xof_length : l.state.reader.xof_length ≡ l.fn.state.reader.xof_length;
  position : l.state.reader.position ≡ l.fn.state.reader.position + (l.fn.count - l.left);
  unfailed : g.K.Sink.failed l.sink ≡ false;
  printed : Appends (g.K.Sink.held l.fn.sink) (g.K.Sink.held l.sink)
      (piece_text l.fn.raw (take (l.fn.count - l.left)
      (drop l.fn.state.reader.position (output_now l.fn.state))));
}

abbrev pub decreases-printing : goal.decreases-printing
decreases-printing g l = l.left
