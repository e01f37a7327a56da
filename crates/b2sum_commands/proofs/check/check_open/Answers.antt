use Rattle.std.proofs.Common.{IfOk, ap, refl, subst}
use Rattle.b2sum_commands.specs.ManifestChecks.{ManifestIsCheckedFromHere}
use Rattle.b2sum_commands.specs.Reports.{TellsManifestEnd}
use Rattle.b2sum_commands.specs.World.{Streams, TellsText, world_of}
use Rattle.b2sum_commands.proofs.EndedByErrors.{result_ok-none_after_error}
use Rattle.b2sum_commands.proofs.OpenedManifests.{open_manifest-is_checked}
use Rattle.b2sum_commands.proofs.OpenedManifests.{open_manifest-check_stopped}
use Rattle.b2sum_commands.proofs.check.check_open.Goals as goal

pub check_lines-requires : goal.check_lines-requires
check_lines-requires g c = c.requires.unread

pub returns-clause-checked : goal.returns-clause-checked
returns-clause-checked g c =
    let w = world_of c.args.host.now.program.name.items g.D.File.OpenFile.named
    g.D.File.OpenFile.failed g.D.File.OpenFile.failure (g.D.Disk.files c.args.host.now.disk)
    g.H.Hashes.hashing in
    let o = c.args.options.now in
    let name = c.args.name.now in
    let mid : Streams = c.check_lines.new.session in
    let new : Streams = record mid {
      told = g.E.Sink.held c.end_manifest.new.messages;
      messages_failed = g.E.Sink.failed c.end_manifest.new.messages;
    } in
    let read = c.in_ok-found.ensures.lines in
    let found = c.in_ok-found.found in
    let r = c.end_manifest.result in
    let last = ap (λ (s : Streams). record s { told = new.told; messages_failed = new.messages_failed })
    c.session.view_is in
    open_manifest-is_checked g.D.File.OpenFile.named g.D.File.OpenFile.left c.args.manifest.file
    c.check_lines.new.manifest.file _ w o name c.args.session.now mid _ read.0 read.1 found r
    c.requires c.in_ok-found.ensures.file read.2 read.3 last
    (subst (λ (s : Streams). IfOk r
    (λ holds. TellsManifestEnd w.program o name found holds (TellsText s new)))
    c.session.view_is c.end_manifest.ensures.told)

pub returns-in_err-found-clause-checked : goal.returns-in_err-found-clause-checked
returns-in_err-found-clause-checked g c =
    let w = world_of c.args.host.now.program.name.items g.D.File.OpenFile.named
    g.D.File.OpenFile.failed g.D.File.OpenFile.failure (g.D.Disk.files c.args.host.now.disk)
    g.H.Hashes.hashing in
    let o = c.args.options.now in
    let name = c.args.name.now in
    result_ok-none_after_error
    (ManifestIsCheckedFromHere w o name c.args.session.now c.check_lines.new.session) _ _
    c.from_residual.ensures.1
    (open_manifest-check_stopped g.D.File.OpenFile.named g.D.File.OpenFile.left c.args.manifest.file
    _ w o name
    c.args.session.now c.check_lines.new.session c.requires (c.in_err-found.ensures.stopped refl))
