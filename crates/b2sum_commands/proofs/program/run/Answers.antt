use Rattle.std.proofs.Common.{◌≡◌, true, false, None, refl, subst, ap, ◌∙◌, rules}
use Rattle.b2sum_commands.specs.World.{Streams, RunEndsWithError, world_of}
use Rattle.b2sum_commands.proofs.MessagesInTurn.{run_status-without_error, run_ended-by_no_memory}
use Rattle.b2sum_commands.proofs.MessagesInTurn.{run_ended-by_failed_write}
use Rattle.b2sum_commands.proofs.MessagesInTurn.{run_status-after_error, refused_run-has_status_1}
use Rattle.b2sum_commands.proofs.program.run.Goals as goal

pub returns-in-Ok-true-clause-line : goal.returns-in-Ok-true-clause-line
returns-in-Ok-true-clause-line g c =
    run_status-without_error _ _ _ _ c.args.session.now c.run_words.new.session c.in-Ok-true.field-0
    true 0
    (search rules) refl c.in-Ok-true.ensures.line

pub returns-in-Ok-false-clause-line : goal.returns-in-Ok-false-clause-line
returns-in-Ok-false-clause-line g c =
    run_status-without_error _ _ _ _ c.args.session.now c.run_words.new.session
    c.in-Ok-false.field-0 false 1
    (search rules) refl c.in-Ok-false.ensures.line

pub returns-in-Err-WriteFailed-clause-line : goal.returns-in-Err-WriteFailed-clause-line
returns-in-Err-WriteFailed-clause-line g c =
    let w = world_of c.args.host.now.program.name.items g.D.File.OpenFile.named
    g.D.File.OpenFile.failed g.D.File.OpenFile.failure (g.D.Disk.files c.args.host.now.disk)
    g.H.Hashes.hashing in
    let new : Streams = record {
      left = g.D.File.OpenFile.left c.session.inside.input;
      held = g.K.Sink.held c.session.inside.output;
      told = g.E.Sink.held c.warn_of_write.new.sink;
      output_failed = g.K.Sink.failed c.session.inside.output;
      output_error = g.K.Output.failure c.session.inside.output;
      messages_failed = g.E.Sink.failed c.warn_of_write.new.sink;
      place = record {
        name = c.session.inside.place.name.items;
        spacing = c.session.inside.place.spacing;
        number = c.session.inside.place.number;
      };
    } in
    let was : c.run_words.new.session.output_failed ≡ true =
    c.in-Err-WriteFailed.ensures.write (search rules) in
    let failed : new.output_failed ≡ true = ap (λ (s : Streams). s.output_failed) c.session.view_is ∙ was in
    run_status-after_error w _ _ _ c.args.session.now c.run_words.new.session new None
    c.in-Err-WriteFailed.ensures.line refl
    (subst (λ (mid : Streams). RunEndsWithError w mid new) c.session.view_is
    (run_ended-by_failed_write w _ new c.last_error-error.result failed
    (c.last_error-error.ensures failed)
    c.warn_of_write.ensures refl))

pub returns-in-Err-WriteFailed-clause-refused : goal.returns-in-Err-WriteFailed-clause-refused
returns-in-Err-WriteFailed-clause-refused g c =
    refused_run-has_status_1 _ _ _ _ c.args.session.now _ 1
    (returns-in-Err-WriteFailed-clause-line g c)

pub returns-in-Err-NoMemory-clause-line : goal.returns-in-Err-NoMemory-clause-line
returns-in-Err-NoMemory-clause-line g c =
    let w = world_of c.args.host.now.program.name.items g.D.File.OpenFile.named
    g.D.File.OpenFile.failed g.D.File.OpenFile.failure (g.D.Disk.files c.args.host.now.disk)
    g.H.Hashes.hashing in
    let new : Streams = record {
      left = g.D.File.OpenFile.left c.session.inside.input;
      held = g.K.Sink.held c.session.inside.output;
      told = g.E.Sink.held c.warn_of_memory.new.sink;
      output_failed = g.K.Sink.failed c.session.inside.output;
      output_error = g.K.Output.failure c.session.inside.output;
      messages_failed = g.E.Sink.failed c.warn_of_memory.new.sink;
      place = record {
        name = c.session.inside.place.name.items;
        spacing = c.session.inside.place.spacing;
        number = c.session.inside.place.number;
      };
    } in
    run_status-after_error w _ _ _ c.args.session.now c.run_words.new.session new None
    c.in-Err-NoMemory.ensures.line refl
    (subst (λ (mid : Streams). RunEndsWithError w mid new) c.session.view_is
    (run_ended-by_no_memory w _ new c.warn_of_memory.ensures refl))

pub returns-in-Err-NoMemory-clause-refused : goal.returns-in-Err-NoMemory-clause-refused
returns-in-Err-NoMemory-clause-refused g c =
    refused_run-has_status_1 _ _ _ _ c.args.session.now _ 1
    (returns-in-Err-NoMemory-clause-line g c)
