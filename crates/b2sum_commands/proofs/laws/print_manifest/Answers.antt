use Rattle.b2sum_commands.proofs.ReadBack.{printed_sums-are_manifest}
use Rattle.b2sum_commands.proofs.laws.print_manifest.Goals as goal

pub returns-clause-manifest : goal.returns-clause-manifest
returns-clause-manifest g c =
    printed_sums-are_manifest _ _ _ _ _ _ c.requires.named c.requires.lines
    c.print_sums.ensures.lines
