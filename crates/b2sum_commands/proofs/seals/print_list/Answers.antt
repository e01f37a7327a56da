use Rattle.std.proofs.Common.{ap, rules, subst, ◌∙◌, List, ℕ, Option}
use Rattle.b2sum_commands.specs.PrintedSums.{ListKeepsPrinted}
use Rattle.b2sum_commands.specs.SealedLists.{FilesArePrinted, seal_line}
use Rattle.b2sum_commands.specs.World.{AcceptsNothingOrPart, Streams, world_of}
use Rattle.b2sum_commands.proofs.DoneInTurn.{items_of}
use Rattle.b2sum_commands.proofs.EndedByErrors.{result_ok-none_after_error}
use Rattle.b2sum_commands.proofs.SealedChecks.{list_printed-stopped_in_seal}
use Rattle.b2sum_commands.proofs.seals.print_list.Goals as goal

pub returns-in_err-put-clause-lines : goal.returns-in_err-put-clause-lines
returns-in_err-put-clause-lines g c =
    let w = world_of c.args.host.now.program.name.items g.D.File.OpenFile.named
    g.D.File.OpenFile.failed g.D.File.OpenFile.failure (g.D.Disk.files c.args.host.now.disk)
    g.H.Hashes.hashing in
    let o = c.args.options.now in
    let names = items_of c.args.names.now in
    let old : Streams = c.args.session.now in
    let mid : Streams = c.print_lines.new.session in
    let new : Streams = record {
      left = g.D.File.OpenFile.left c.session.inside.input;
      held = g.K.Sink.held c.put.new.sink;
      told = g.E.Sink.held c.session.inside.messages;
      output_failed = g.K.Sink.failed c.put.new.sink;
      output_error = g.K.Output.failure c.put.new.sink;
      messages_failed = g.E.Sink.failed c.session.inside.messages;
      place = record {
        name = c.session.inside.place.name.items;
        spacing = c.session.inside.place.spacing;
        number = c.session.inside.place.number;
      };
    } in
    let list : List ℕ = c.print_lines.new.list.items in
    let line = c.as_slice-2.ensures.value ∙ c.in_ok-seal.ensures.line
    ∙ ap (seal_line w.hashing o) c.as_slice.ensures.value in
    result_ok-none_after_error (FilesArePrinted o.is_sealed w o names old new) _ _
    c.from_residual-in_err-put.ensures.1
    (list_printed-stopped_in_seal o.is_sealed w o names old mid new list c.in_ok-print_lines.field-0
    (search (rules, c.if-not-options)) (search (rules, c.if-not-branch))
    c.in_ok-print_lines.ensures.lines
    (subst (λ (xs : List ℕ). ListKeepsPrinted o.is_sealed old.held mid.held xs list)
    c.new-list.ensures.items
    c.in_ok-print_lines.ensures.kept)
    (subst (λ (held : Option (List ℕ)). AcceptsNothingOrPart held new.held
    (seal_line w.hashing o list))
    (ap (λ (s : Streams). s.held) c.session.view_is)
    (subst (AcceptsNothingOrPart (g.K.Sink.held c.session.inside.output) new.held) line
    c.in_err-put.ensures.part)))
