use Rattle.std.proofs.Common.{map, rules}
use Rattle.std.specs.String.{string_bytes}
use Rattle.b2_commands.specs.ReadTasks.{comparison_task}
use Rattle.b2_commands.proofs.Statuses.{IsDone-if_status_zero, ReportsFault-if_status_nonzero}
use Rattle.b2_commands.proofs.dispatch.run_with_notes.Goals as goal

pub status_after-requires-in-Ok-Compare : goal.status_after-requires-in-Ok-Compare
status_after-requires-in-Ok-Compare g c =
    (c.witness-end.ensures (g.S.Source.left c.args.source.now)).write

pub returns-in-Ok-Hash-clause-told : goal.returns-in-Ok-Hash-clause-told
returns-in-Ok-Hash-clause-told g c =
    let told = c.status_after.ensures in
    ReportsFault-if_status_nonzero (map string_bytes c.args.words.now) _ c.hash-end.result _ _ _ _ _
    _ _ _ _
    c.in-Ok-Hash.ensures.task (search rules) (search rules) told.printed told.failed

pub returns-in-Ok-Compare-clause-done : goal.returns-in-Ok-Compare-clause-done
returns-in-Ok-Compare-clause-done g c =
    let told = c.status_after-in-Ok-Compare.ensures in
    IsDone-if_status_zero (map string_bytes c.args.words.now)
    (comparison_task c.in-Ok-Compare.comparison)
    c.witness-end.result _ _ _ _ _ _ _ _ (search rules) (c.witness-end.ensures (g.S.Source.left c.args.source.now))
    (search rules) told.printed told.unprinted

pub returns-in-Ok-Compare-clause-told : goal.returns-in-Ok-Compare-clause-told
returns-in-Ok-Compare-clause-told g c =
    let told = c.status_after-in-Ok-Compare.ensures in
    rw c.requires.source
    (ReportsFault-if_status_nonzero (map string_bytes c.args.words.now)
    (comparison_task c.in-Ok-Compare.comparison)
    c.witness-end.result _ _ _ _ _ _ _ _ _ (search rules) (c.witness-end.ensures (g.S.Source.left c.args.source.now))
    (search rules) told.printed told.failed)

pub returns-in-Ok-Tree-clause-told : goal.returns-in-Ok-Tree-clause-told
returns-in-Ok-Tree-clause-told g c =
    let told = c.status_after-in-Ok-Tree.ensures in
    ReportsFault-if_status_nonzero (map string_bytes c.args.words.now) _ c.tree-end.result _ _ _ _ _
    _ _ _ _
    c.in-Ok-Tree.ensures.task (search rules) (search rules) told.printed told.failed

pub returns-in-Ok-Leaves-clause-told : goal.returns-in-Ok-Leaves-clause-told
returns-in-Ok-Leaves-clause-told g c =
    let told = c.status_after-in-Ok-Leaves.ensures in
    ReportsFault-if_status_nonzero (map string_bytes c.args.words.now) _ c.leaves-end.result _ _ _ _
    _ _ _ _ _
    c.in-Ok-Leaves.ensures.task (search rules) (search rules) told.printed told.failed

pub returns-in-Ok-Xof-clause-told : goal.returns-in-Ok-Xof-clause-told
returns-in-Ok-Xof-clause-told g c =
    let told = c.status_after-in-Ok-Xof.ensures in
    ReportsFault-if_status_nonzero (map string_bytes c.args.words.now) _ c.xof-end.result _ _ _ _ _
    _ _ _ _
    c.in-Ok-Xof.ensures.task (search rules) (search rules) told.printed told.failed

pub returns-in-Ok-Derive-clause-told : goal.returns-in-Ok-Derive-clause-told
returns-in-Ok-Derive-clause-told g c =
    let told = c.status_after-in-Ok-Derive.ensures in
    ReportsFault-if_status_nonzero (map string_bytes c.args.words.now) _ c.derive-end.result _ _ _ _
    _ _ _ _ _
    c.in-Ok-Derive.ensures.task (search rules) (search rules) told.printed told.failed
