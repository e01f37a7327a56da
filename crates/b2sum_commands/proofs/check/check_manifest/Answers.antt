use Rattle.std.proofs.Common.{false, Some, ap, subst, ◌∙◌, rules}
use Rattle.std.specs.Result.{result_ok}
use Rattle.b2sum_commands.specs.ManifestChecks.{ManifestIsCheckedFromHere, ManifestIsChecked}
use Rattle.b2sum_commands.specs.World.{Streams, world_of}
use Rattle.b2sum_commands.proofs.CheckedLines.{manifest_checked-if_unopened}
use Rattle.b2sum_commands.proofs.EndedByErrors.{IfSome-holds_for_value, result_ok-none_after_error}
use Rattle.b2sum_commands.proofs.EndedByErrors.{error_before_manifest}
use Rattle.b2sum_commands.proofs.check.check_manifest.Goals as goal

pub check_open-requires : goal.check_open-requires
check_open-requires g c =
    (IfSome-holds_for_value _ _ c.in-Some.manifest c.in-Some.is c.in_ok-manifest.ensures.opened).1

pub returns-clause-checked : goal.returns-clause-checked
returns-clause-checked g c =
    let w = world_of c.args.host.now.program.name.items g.D.File.OpenFile.named
    g.D.File.OpenFile.failed g.D.File.OpenFile.failure (g.D.Disk.files c.args.host.now.disk)
    g.H.Hashes.hashing in
    let opened = IfSome-holds_for_value _ _ c.in-Some.manifest c.in-Some.is
    c.in_ok-manifest.ensures.opened in
    subst (λ (s : Streams). ManifestIsCheckedFromHere w c.args.options.now c.args.name.now s
    c.check_open.new.session
    (result_ok c.check_open.result)) (opened.0 ∙ c.in_ok-begin_manifest.ensures.begun)
    c.check_open.ensures.checked

pub returns-in_default-clause-checked : goal.returns-in_default-clause-checked
returns-in_default-clause-checked g c =
    let w = world_of c.args.host.now.program.name.items g.D.File.OpenFile.named
    g.D.File.OpenFile.failed g.D.File.OpenFile.failure (g.D.Disk.files c.args.host.now.disk)
    g.H.Hashes.hashing in
    let cut = c.in_ok-manifest.ensures.cut (search rules) in
    subst (λ (s : Streams). ManifestIsCheckedFromHere w c.args.options.now c.args.name.now s
    c.open_manifest.new.session
    (Some false)) c.in_ok-begin_manifest.ensures.begun
    (manifest_checked-if_unopened w c.args.options.now c.args.name.now c.begin_manifest.new.self
    c.open_manifest.new.session cut.0 cut.1)

pub returns-in_err-begin_manifest-clause-checked : goal.returns-in_err-begin_manifest-clause-checked
returns-in_err-begin_manifest-clause-checked g c =
    let w = world_of c.args.host.now.program.name.items g.D.File.OpenFile.named
    g.D.File.OpenFile.failed g.D.File.OpenFile.failure (g.D.Disk.files c.args.host.now.disk)
    g.H.Hashes.hashing in
    result_ok-none_after_error
    (ManifestIsChecked w c.args.options.now c.args.name.now c.args.session.now
    c.begin_manifest.new.self) _ _ c.from_residual.ensures.1
    (error_before_manifest w c.args.options.now c.args.name.now _ c.begin_manifest.new.self
    (ap (λ (s : Streams). s.held) (c.in_err-begin_manifest.ensures.unbegun (search rules))))

pub returns-in_err-manifest-clause-checked : goal.returns-in_err-manifest-clause-checked
returns-in_err-manifest-clause-checked g c =
    let w = world_of c.args.host.now.program.name.items g.D.File.OpenFile.named
    g.D.File.OpenFile.failed g.D.File.OpenFile.failure (g.D.Disk.files c.args.host.now.disk)
    g.H.Hashes.hashing in
    result_ok-none_after_error
    (ManifestIsChecked w c.args.options.now c.args.name.now c.args.session.now
    c.open_manifest.new.session) _ _ c.from_residual-in_err-manifest.ensures.1
    (error_before_manifest w c.args.options.now c.args.name.now _ c.open_manifest.new.session
    (c.in_err-manifest.ensures.held
    ∙ ap (λ (s : Streams). s.held) c.in_ok-begin_manifest.ensures.begun))
