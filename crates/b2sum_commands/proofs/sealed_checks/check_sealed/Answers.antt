use Rattle.std.proofs.Common.{ap, rules, subst, ◌∙◌, Some, List, ℕ, Bool, ◌&&◌}
use Rattle.std.specs.Result.{result_ok}
use Rattle.text_lines.specs.Cuts.{lines_of}
use Rattle.b2sum_commands.specs.Manifests.{LineIsChecked}
use Rattle.b2sum_commands.specs.Reports.{TellsManifestEnd}
use Rattle.b2sum_commands.specs.SealedLists.{ListIsCheckedBySeal}
use Rattle.b2sum_commands.specs.World.{AreDoneInTurn, Streams, TellsText, world_of}
use Rattle.b2sum_commands.proofs.EndedByErrors.{IfSome-holds_for_value, result_ok-none_after_error}
use Rattle.b2sum_commands.proofs.DoneInTurn.{items_of}
use Rattle.b2sum_commands.specs.FolderChecks.{FoldersAreComparedIfAny, entry_names_of_lines}
use Rattle.b2sum_commands.proofs.SealedChecks.{read_of, list_checked-stopped_after_lines}
use Rattle.b2sum_commands.proofs.SealedChecks.{list_checked-seal_holds}
use Rattle.b2sum_commands.proofs.sealed_checks.check_sealed.Goals as goal

pub returns-clause-checked : goal.returns-clause-checked
returns-clause-checked g c =
    let w = world_of c.args.host.now.program.name.items g.D.File.OpenFile.named
    g.D.File.OpenFile.failed g.D.File.OpenFile.failure (g.D.Disk.files c.args.host.now.disk)
    g.H.Hashes.hashing in
    let o = c.args.options.now in
    let name : List ℕ = c.args.name.now in
    let begun : Streams = c.begin_manifest.new.self in
    let read : Streams = c.read_list.new.session in
    let mid : Streams = c.check_text.new.session in
    let checked : Streams = record {
      left = g.D.File.OpenFile.left c.session-2.inside.input;
      held = g.K.Sink.held c.session-2.inside.output;
      told = g.E.Sink.held c.end_manifest.new.messages;
      output_failed = g.K.Sink.failed c.session-2.inside.output;
      output_error = g.K.Output.failure c.session-2.inside.output;
      messages_failed = g.E.Sink.failed c.end_manifest.new.messages;
      place = record {
        name = c.session-2.inside.place.name.items;
        spacing = c.session-2.inside.place.spacing;
        number = c.session-2.inside.place.number;
      };
    } in
    let new : Streams = c.has_all.new.session in
    let text : List ℕ = c.as_slice-text.result.now in
    let found = IfSome-holds_for_value _ _ c.in-Some.list c.in-Some.is c.in_ok-list.ensures.text in
    let lines = c.in_ok-counts.ensures.lines in
    let last = ap (λ (s : Streams). record s { told = checked.told; messages_failed = checked.messages_failed })
    c.session-2.view_is in
    subst (λ (s : Streams). ListIsCheckedBySeal w o name s new
    (Some (c.in_ok-holds.holds && c.in_ok-has_all.has_all)))
    c.in_ok-begin_manifest.ensures.begun
    (list_checked-seal_holds w o name begun read mid checked new text lines.0 c.in_ok-counts.counts
    c.spacing-spacing.result c.in_ok-holds.holds c.in_ok-has_all.has_all
    (read_of w name begun read c.in-Some.list.items text found.0 found.1 found.2 found.3
    c.as_slice-text.ensures.value)
    (c.in_ok-is_sealed.ensures.sealed.0 (search (rules, c.if-not-branch)))
    (subst (λ (b : Bool). AreDoneInTurn (LineIsChecked w o b) (lines_of text) read mid lines.0)
    c.is_standard_input-is_input.ensures
    lines.1)
    lines.2 last
    (subst (λ (s : Streams). TellsManifestEnd w.program o name (Some c.in_ok-counts.counts)
    c.in_ok-holds.holds
    (TellsText s checked)) c.session-2.view_is c.in_ok-holds.ensures.told)
    c.spacing-spacing.ensures
    (subst (λ (b : Bool). FoldersAreComparedIfAny w o (items_of o.folders.items)
    (entry_names_of_lines o b c.spacing-spacing.result (lines_of text)) checked new
    c.in_ok-has_all.has_all)
    c.is_standard_input-is_input.ensures c.in_ok-has_all.ensures.compared))

pub returns-in_err-holds-clause-checked : goal.returns-in_err-holds-clause-checked
returns-in_err-holds-clause-checked g c =
    let w = world_of c.args.host.now.program.name.items g.D.File.OpenFile.named
    g.D.File.OpenFile.failed g.D.File.OpenFile.failure (g.D.Disk.files c.args.host.now.disk)
    g.H.Hashes.hashing in
    let o = c.args.options.now in
    let name : List ℕ = c.args.name.now in
    let begun : Streams = c.begin_manifest.new.self in
    let read : Streams = c.read_list.new.session in
    let mid : Streams = c.check_text.new.session in
    let new : Streams = record {
      left = g.D.File.OpenFile.left c.session-2.inside.input;
      held = g.K.Sink.held c.session-2.inside.output;
      told = g.E.Sink.held c.end_manifest.new.messages;
      output_failed = g.K.Sink.failed c.session-2.inside.output;
      output_error = g.K.Output.failure c.session-2.inside.output;
      messages_failed = g.E.Sink.failed c.end_manifest.new.messages;
      place = record {
        name = c.session-2.inside.place.name.items;
        spacing = c.session-2.inside.place.spacing;
        number = c.session-2.inside.place.number;
      };
    } in
    let text : List ℕ = c.as_slice-text.result.now in
    let found = IfSome-holds_for_value _ _ c.in-Some.list c.in-Some.is c.in_ok-list.ensures.text in
    let lines = c.in_ok-counts.ensures.lines in
    subst (λ (s : Streams). ListIsCheckedBySeal w o name s new
    (result_ok c.from_residual-in_err-holds.result))
    c.in_ok-begin_manifest.ensures.begun
    (result_ok-none_after_error (ListIsCheckedBySeal w o name begun new) _ _
    c.from_residual-in_err-holds.ensures.1
    (list_checked-stopped_after_lines w o name begun read mid new text lines.0
    (read_of w name begun read c.in-Some.list.items text found.0 found.1 found.2 found.3
    c.as_slice-text.ensures.value)
    (c.in_ok-is_sealed.ensures.sealed.0 (search (rules, c.if-not-branch)))
    (subst (λ (b : Bool). AreDoneInTurn (LineIsChecked w o b) (lines_of text) read mid lines.0)
    c.is_standard_input-is_input.ensures lines.1)
    (ap (λ (s : Streams). s.held) c.session-2.view_is)))

pub returns-in_err-has_all-clause-checked : goal.returns-in_err-has_all-clause-checked
returns-in_err-has_all-clause-checked g c =
    let w = world_of c.args.host.now.program.name.items g.D.File.OpenFile.named
    g.D.File.OpenFile.failed g.D.File.OpenFile.failure (g.D.Disk.files c.args.host.now.disk)
    g.H.Hashes.hashing in
    let o = c.args.options.now in
    let name : List ℕ = c.args.name.now in
    let begun : Streams = c.begin_manifest.new.self in
    let read : Streams = c.read_list.new.session in
    let mid : Streams = c.check_text.new.session in
    let new : Streams = c.has_all.new.session in
    let text : List ℕ = c.as_slice-text.result.now in
    let found = IfSome-holds_for_value _ _ c.in-Some.list c.in-Some.is c.in_ok-list.ensures.text in
    let lines = c.in_ok-counts.ensures.lines in
    subst (λ (s : Streams). ListIsCheckedBySeal w o name s new
    (result_ok c.from_residual-in_err-has_all.result))
    c.in_ok-begin_manifest.ensures.begun
    (result_ok-none_after_error (ListIsCheckedBySeal w o name begun new) _ _
    c.from_residual-in_err-has_all.ensures.1
    (list_checked-stopped_after_lines w o name begun read mid new text lines.0
    (read_of w name begun read c.in-Some.list.items text found.0 found.1 found.2 found.3
    c.as_slice-text.ensures.value)
    (c.in_ok-is_sealed.ensures.sealed.0 (search (rules, c.if-not-branch)))
    (subst (λ (b : Bool). AreDoneInTurn (LineIsChecked w o b) (lines_of text) read mid lines.0)
    c.is_standard_input-is_input.ensures lines.1)
    (c.in_err-has_all.ensures.held ∙ ap (λ (s : Streams). s.held) c.session-2.view_is)))
