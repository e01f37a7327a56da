use Rattle.std.proofs.Common.{◌≡◌, false, map, take}
use Rattle.std.specs.List.{flat_map}
use Rattle.std.specs.Io.KnownBytes.{Appends}
use Rattle.blake2.specs.StepViews.{entry_of}
use Rattle.b2_commands.specs.PrintedLines.{entry_line}
use Rattle.b2_commands.proofs.steps.print_entries.Given as goal

abbrev pub invariant-loop-entry : goal.invariant-loop-entry
invariant-loop-entry g l = record {
  unfailed : g.K.Sink.failed l.sink ≡ false;
  printed : Appends (g.K.Sink.held l.fn.sink) (g.K.Sink.held l.sink)
      (flat_map entry_line (map entry_of (take l.entry-index l.entries)));
}
