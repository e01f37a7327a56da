use Rattle.std.proofs.Common.{◌≡◌, ℕ, List, ◌++◌}
use Rattle.std.specs.Io.KnownBytes.{Consumes}
use Rattle.b2sum_commands.specs.LineReads.{HasNoNewline}
use Rattle.b2sum_commands.proofs.line_reader.LineReader.read_line.Given as goal

abbrev pub invariant-loop : goal.invariant-loop
invariant-loop g l = record {
  one : HasNoNewline l.line.items;
  passed : (more : List ℕ)
      × Consumes (g.S.OpenFile.left l.fn.source) (g.S.OpenFile.left l.source) more
      × (l.fn.self ++ more ≡ l.line.items ++ l.self);
  name : g.S.OpenFile.named l.source ≡ g.S.OpenFile.named l.fn.source;
}
