use Rattle.std.proofs.Common.{◌≡◌, ℕ, List, ap, rules, subst}
use Rattle.b2sum_commands.specs.Manifests.{warns_of_bad_lines}
use Rattle.b2sum_commands.specs.Messages.{LineNeeds, message, message_if}
use Rattle.b2sum_commands.specs.World.{SinkAcceptsOrFails, Streams}
use Rattle.b2sum_commands.specs.declared.options.Report.TheVariants.{Warnings}
use Rattle.b2sum_commands.proofs.ManifestMessages.{told}
use Rattle.b2sum_commands.proofs.check.warn_of_unmet.Goals as goal

pub returns-clause-told : goal.returns-clause-told
returns-clause-told g c =
    let o = c.args.options.now in
    let program = c.args.program.now.name.items in
    let inside = c.session.inside in
    let new = c.warn_of_line_needs.new.sink in
    let is : o.report ≡ Warnings = search (rules, c.if-ne) in
    subst (λ (s : Streams). SinkAcceptsOrFails s.messages_failed (g.E.Sink.failed new) s.told
    (g.E.Sink.held new)
    (message_if (warns_of_bad_lines o.report) program
    (LineNeeds s.place.name s.place.number c.args.lacks)))
    c.session.view_is (told _ _ _ _ _ _ _ (ap warns_of_bad_lines is)
    (subst (λ (n : List ℕ). SinkAcceptsOrFails (g.E.Sink.failed inside.messages)
    (g.E.Sink.failed new)
    (g.E.Sink.held inside.messages) (g.E.Sink.held new)
    (message program (LineNeeds n inside.place.number c.args.lacks))) c.as_slice-name.ensures.value
    c.in_ok-warn_of_line_needs.ensures))
