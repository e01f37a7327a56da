use Rattle.std.proofs.Common.{List, ℕ, ap, codes, subst, sym, ◌∙◌}
use Rattle.b2sum_commands.proofs.DoneInTurn.{items_of}
use Rattle.b2sum_commands.proofs.LookedFor.{has_name-in_any_order, name_looked_up-missing_silently}
use Rattle.b2sum_commands.proofs.LookedFor.{name_looked_up-there, name_looked_up-missing_told}
use Rattle.b2sum_commands.specs.Messages.{Cannot, message}
use Rattle.b2sum_commands.specs.World.{SinkAcceptsOrFails, Streams, TellsText, world_of}
use Rattle.b2sum_commands.proofs.folder_checks.look_for_one.Goals as goal

pub returns-then-is_there-clause-looked : goal.returns-then-is_there-clause-looked
returns-then-is_there-clause-looked g c = λ all same.
    let w = world_of c.args.host.now.program.name.items g.D.File.OpenFile.named
    g.D.File.OpenFile.failed g.D.File.OpenFile.failure (g.D.Disk.files c.args.host.now.disk)
    g.H.Hashes.hashing in
    let name : List ℕ = c.args.thing.now.items in
    name_looked_up-there w c.args.options.now all name c.args.session.now
    (has_name-in_any_order all (items_of c.args.names.now) name _ same
    (sym c.if-is_there.true ∙ c.has_name-is_there.ensures))

pub returns-then-prints_nothing-clause-looked : goal.returns-then-prints_nothing-clause-looked
returns-then-prints_nothing-clause-looked g c = λ all same.
    let w = world_of c.args.host.now.program.name.items g.D.File.OpenFile.named
    g.D.File.OpenFile.failed g.D.File.OpenFile.failure (g.D.Disk.files c.args.host.now.disk)
    g.H.Hashes.hashing in
    let name : List ℕ = c.args.thing.now.items in
    name_looked_up-missing_silently w c.args.options.now all name c.args.session.now
    (has_name-in_any_order all (items_of c.args.names.now) name _ same
    (sym c.if-is_there.false ∙ c.has_name-is_there.ensures))
    (sym c.prints_nothing.ensures ∙ c.if-prints_nothing.true)

pub returns-clause-looked : goal.returns-clause-looked
returns-clause-looked g c = λ all same.
    let w = world_of c.args.host.now.program.name.items g.D.File.OpenFile.named
    g.D.File.OpenFile.failed g.D.File.OpenFile.failure (g.D.Disk.files c.args.host.now.disk)
    g.H.Hashes.hashing in
    let name : List ℕ = c.args.thing.now.items in
    let new : Streams = record {
      left = g.D.File.OpenFile.left c.session.inside.input;
      held = g.K.Sink.held c.session.inside.output;
      told = g.E.Sink.held c.warn_of_name.new.sink;
      output_failed = g.K.Sink.failed c.session.inside.output;
      output_error = g.K.Output.failure c.session.inside.output;
      messages_failed = g.E.Sink.failed c.warn_of_name.new.sink;
      place = record {
        name = c.session.inside.place.name.items;
        spacing = c.session.inside.place.spacing;
        number = c.session.inside.place.number;
      };
    } in
    let said = λ (n : List ℕ). message w.program (Cannot n (codes "is not in the list")) in
    name_looked_up-missing_told w c.args.options.now all name c.args.session.now new
    (has_name-in_any_order all (items_of c.args.names.now) name _ same
    (sym c.if-is_there.false ∙ c.has_name-is_there.ensures))
    (sym c.prints_nothing.ensures ∙ c.if-prints_nothing.false)
    (ap (λ (s : Streams). record s { told = new.told; messages_failed = new.messages_failed })
    c.session.view_is)
    (subst (λ (s : Streams). TellsText s new (said name)) c.session.view_is
    (subst (λ (n : List ℕ). SinkAcceptsOrFails (g.E.Sink.failed c.session.inside.messages)
    new.messages_failed (g.E.Sink.held c.session.inside.messages) new.told (said n))
    c.as_slice.ensures.value c.in_ok-warn_of_name.ensures))
