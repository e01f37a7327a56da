use Rattle.std.proofs.Common.{ap, rules, subst, ◌∙◌, sym, List, ℕ, Option}
use Rattle.b2sum_commands.specs.Messages.{is_standard_input}
use Rattle.b2sum_commands.specs.PrintedSums.{SourceHasText, DigestLineIsPrinted}
use Rattle.b2sum_commands.specs.World.{Streams, world_of}
use Rattle.b2sum_commands.proofs.EndedByErrors.{result_ok-none_after_error}
use Rattle.b2sum_commands.proofs.KeptLines.{sum_stops}
use Rattle.b2sum_commands.proofs.sums.print_sum.Goals as goal

pub returns-in_err-put_line-clause-line : goal.returns-in_err-put_line-clause-line
returns-in_err-put_line-clause-line g c =
    let w = world_of c.args.host.now.program.name.items g.D.File.OpenFile.named
    g.D.File.OpenFile.failed g.D.File.OpenFile.failure (g.D.Disk.files c.args.host.now.disk)
    g.H.Hashes.hashing in
    let o = c.args.options.now in
    let name : List ℕ = c.args.name.now in
    let old : Streams = c.args.session.now in
    let mid : Streams = c.digest_file.new.session in
    let whole = c.in_ok-read.ensures.whole (search (rules, c.if-ne)) in
    let left = ap (λ (s : Streams). s.left) c.session.view_is in
    let held = ap (λ (s : Streams). s.held) c.session.view_is ∙ c.in_ok-read.ensures.output.held in
    let new : Streams = record {
      left = g.D.File.OpenFile.left c.session.inside.input;
      held = g.K.Sink.held c.put_line.new.output;
      told = g.E.Sink.held c.session.inside.messages;
      output_failed = g.K.Sink.failed c.put_line.new.output;
      output_error = g.K.Output.failure c.put_line.new.output;
      messages_failed = g.E.Sink.failed c.session.inside.messages;
      place = record {
        name = c.session.inside.place.name.items;
        spacing = c.session.inside.place.spacing;
        number = c.session.inside.place.number;
      };
    } in
    result_ok-none_after_error (DigestLineIsPrinted w o name old new) _ _
    c.from_residual-in_err-put_line.ensures.1
    (sum_stops w o name old new (g.K.Sink.held c.session.inside.output) whole.0 _ _ held
    (subst (λ (l : Option (List ℕ)). SourceHasText (is_standard_input name) (w.files.holds name)
    old.left l whole.0)
    (sym left) whole.1) whole.2 (c.as_slice.ensures.value ∙ c.in_ok-line.ensures.text)
    c.in_err-put_line.ensures.part)
