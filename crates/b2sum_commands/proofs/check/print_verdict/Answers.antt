use Rattle.std.proofs.Common.{◌≡◌, List, ℕ, OnErr, subst, rules}
use Rattle.b2sum_commands.specs.World.{AcceptsNothingOrPart}
use Rattle.b2sum_commands.specs.Manifests.{name_with_outcome, full_outcome}
use Rattle.b2sum_commands.proofs.check.print_verdict.Goals as goal

pub returns-clause-part : goal.returns-clause-part
returns-clause-part g c =
    let entry = c.args.entry.now in
    let same : name_with_outcome c.as_slice-2.result.now c.as_slice-3.result.now
    ≡ name_with_outcome entry.name.items
    (full_outcome c.args.options.now c.args.verdict entry.digest.items c.args.found.now) =
    search rules in
    subst (λ (text : List ℕ). OnErr c.print_outcome.result
    (AcceptsNothingOrPart (g.K.Sink.held c.args.output.now)
    (g.K.Sink.held c.print_outcome.new.output) text)) same
    c.print_outcome.ensures.part
