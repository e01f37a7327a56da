use Rattle.std.proofs.Common.{◌≡◌, ℕ, List, Option, Result, Ok, length, take, ap, ◌∙◌, sym, subst}
use Rattle.std.proofs.Common.{rules}
use Rattle.b2sum_lines.specs.EntryViews.{entry_value}
use Rattle.b2sum_lines.specs.ManifestLines.{Line}
use Rattle.b2sum_commands.specs.World.{world_of, Streams, AcceptsNothingOrPart}
use Rattle.b2sum_commands.specs.Manifests.{VerdictIsRight, verdict_lines}
use Rattle.b2sum_commands.specs.declared.check.Verdict.{Verdict}
use Rattle.b2sum_commands.proofs.EndedByErrors.{stops_in_verdict-if_write_stops}
use Rattle.b2sum_commands.proofs.check.check_entry.Goals as goal

pub returns-in_err-print_verdict-clause-begun : goal.returns-in_err-print_verdict-clause-begun
returns-in_err-print_verdict-clause-begun g c = λ error.
    let w = world_of c.args.host.now.program.name.items
    g.D.File.OpenFile.named g.D.File.OpenFile.failed
    g.D.File.OpenFile.failure (g.D.Disk.files c.args.host.now.disk)
    g.H.Hashes.hashing in
    let o = c.args.options.now in
    let i : Result Line Verdict = Ok (entry_value c.args.entry.now) in
    let v = c.in_ok-verdict.verdict in
    let out = c.judge_entry.new.out in
    let found = take (length c.args.entry.now.digest.items) out in
    let old : Streams = c.args.session.now in
    let begun = g.K.Sink.held c.session.inside.output in
    let new : Streams = record old {
      left = g.D.File.OpenFile.left c.session.inside.input;
      held = g.K.Sink.held c.print_verdict.new.output;
    } in
    let right : VerdictIsRight w o old.left i v found new.left =
    subst (λ (s : Streams). VerdictIsRight w o old.left i v found s.left) (sym c.session.view_is)
    c.in_ok-verdict.ensures.verdict in
    let same : begun ≡ old.held =
    ap (λ (s : Streams). s.held) c.session.view_is ∙ c.in_ok-verdict.ensures.output.held in
    let whole : c.len.result ≡ length c.args.entry.now.digest.items = search rules in
    let part : AcceptsNothingOrPart begun new.held (verdict_lines o i v found) =
    subst (λ (n : ℕ). AcceptsNothingOrPart begun new.held (verdict_lines o i v (take n out))) whole
    c.in_err-print_verdict.ensures.part in
    stops_in_verdict-if_write_stops w o i old new v found right
    (subst (λ (h : Option (List ℕ)). AcceptsNothingOrPart h new.held (verdict_lines o i v found))
    same part)
