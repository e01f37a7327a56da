use Rattle.blake2_transcript.proofs.steps.reader.is_run.Given as goal

abbrev pub ghost-ends_run : goal.ghost-ends_run
ghost-ends_run g a = g.f

abbrev pub ghost-are_inner : goal.ghost-are_inner
ghost-are_inner g a = g.f
