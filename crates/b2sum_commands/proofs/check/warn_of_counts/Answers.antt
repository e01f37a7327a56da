use Rattle.b2sum_commands.proofs.ManifestMessages.{four_texts-written_in_turn}
use Rattle.b2sum_commands.proofs.check.warn_of_counts.Goals as goal

pub returns : goal.returns
returns g c = four_texts-written_in_turn _ _ _ _ _ _ _ _ _ _ _ _ _ _ c.in_ok-warn_of_count.ensures
    c.in_ok-warn_of_count-2.ensures c.in_ok-warn_of_count-3.ensures c.in_ok-warn_of_count-4.ensures
