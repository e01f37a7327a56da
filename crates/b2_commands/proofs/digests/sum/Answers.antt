use Rattle.blake2_state.specs.Runs.{meaning}
use Rattle.b2_commands.proofs.PrintedDigits.{Updated-by_all_source_bytes}
use Rattle.b2_commands.proofs.SumLaws.{EndsByPrinting-digest}
use Rattle.b2_commands.proofs.digests.sum.Goals as goal

pub returns-clause-ends : goal.returns-clause-ends
returns-clause-ends g c = λ digest n fresh long.
    EndsByPrinting-digest meaning digest n c.args.size c.args.run c.absorb_stream.new.hasher
    c.print_bytes.result
    _ _ _ fresh long (Updated-by_all_source_bytes meaning _ _ _ _ _
    c.in_ok-absorb_stream.ensures.whole)
    c.print_bytes.ensures.fault (rw c.finalize_fixed-whole.ensures at c.print_bytes.ensures.line)
