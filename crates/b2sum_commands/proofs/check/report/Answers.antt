use Rattle.std.proofs.Common.{rules}
use Rattle.b2sum_commands.proofs.ManifestMessages.{reported}
use Rattle.b2sum_commands.proofs.check.report.Goals as goal

pub returns-clause-told : goal.returns-clause-told
returns-clause-told g c = reported _ _ _ _ _ _ _ _ _ _ c.args.options.now c.args.counts.now
    (search (rules, c.if-has_no_entry)) (search (rules, c.if-prints_nothing, c.prints_nothing.ensures))
    c.in_ok-warn_of_needs.ensures c.in_ok-warn_of_counts.ensures c.in_ok-warn_if_none.ensures
