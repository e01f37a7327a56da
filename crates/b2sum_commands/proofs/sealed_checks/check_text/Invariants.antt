use Rattle.std.proofs.Common.{List, length}
use Rattle.text_lines.specs.Cuts.{lines_of}
use Rattle.b2sum_commands.specs.Manifests.{LineIsChecked}
use Rattle.b2sum_commands.specs.ReadAhead.{AreDigestsOfFiles}
use Rattle.b2sum_commands.specs.Reports.{CountsMatchVerdicts}
use Rattle.b2sum_commands.specs.World.{world_of}
use Rattle.b2sum_commands.specs.declared.check.Verdict.{Verdict}
use Rattle.b2sum_commands.proofs.DoneInTurn.{DoneSoFar}
use Rattle.b2sum_commands.proofs.sealed_checks.check_text.Given as goal

abbrev pub invariant-line : goal.invariant-line
invariant-line g l =
    (vs : List Verdict) × DoneSoFar (LineIsChecked (world_of l.host.program.name.items
    g.D.File.OpenFile.named g.D.File.OpenFile.failed
    g.D.File.OpenFile.failure (g.D.Disk.files l.host.disk) g.H.Hashes.hashing) l.options
    l.is_input) (lines_of l.fn.text) l.fn.session (lines_of l.rest) l.session vs
    × CountsMatchVerdicts vs l.counts
    × AreDigestsOfFiles (g.D.Disk.files l.host.disk) g.H.Hashes.hashing l.options
    l.ahead.found.items

abbrev pub decreases-line : goal.decreases-line
decreases-line g l = length l.rest
