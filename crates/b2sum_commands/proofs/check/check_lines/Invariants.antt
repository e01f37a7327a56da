use Rattle.std.proofs.Common.{◌≡◌, List, is_none}
use Rattle.b2sum_commands.specs.World.{world_of}
use Rattle.b2sum_commands.specs.LineReads.{source_left, source_name_or_dash}
use Rattle.b2sum_commands.specs.ReadAhead.{AreDigestsOfFiles}
use Rattle.b2sum_commands.specs.Reports.{CountsMatchVerdicts}
use Rattle.b2sum_commands.specs.declared.check.Verdict.{Verdict}
use Rattle.b2sum_commands.proofs.CheckedLines.{Reading}
use Rattle.b2sum_commands.proofs.check.check_lines.Given as goal

abbrev pub invariant-number : goal.invariant-number
invariant-number g l = record {
  file : is_none l.manifest.file ≡ is_none l.fn.manifest.file;
  name : source_name_or_dash g.D.File.OpenFile.named l.manifest.file
      ≡ source_name_or_dash g.D.File.OpenFile.named l.fn.manifest.file;
  read : (vs : List Verdict) × Reading (world_of l.host.program.name.items
      g.D.File.OpenFile.named g.D.File.OpenFile.failed
      g.D.File.OpenFile.failure (g.D.Disk.files l.host.disk) g.H.Hashes.hashing) l.options (is_none l.fn.manifest.file)
      (source_left g.D.File.OpenFile.left l.fn.manifest.file l.fn.session.left) l.fn.session
      l.manifest.lines (source_left g.D.File.OpenFile.left l.manifest.file l.session.left) l.session vs
      × CountsMatchVerdicts vs l.counts;
  ahead : AreDigestsOfFiles (g.D.Disk.files l.host.disk) g.H.Hashes.hashing l.options
      l.ahead.found.items;
}
