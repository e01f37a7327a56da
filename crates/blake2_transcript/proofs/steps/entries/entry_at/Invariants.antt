use Rattle.blake2_transcript.proofs.steps.entries.entry_at.Given as goal

abbrev pub ghost-counted : goal.ghost-counted
ghost-counted g a = g.f

abbrev pub ghost-step_count : goal.ghost-step_count
ghost-step_count g a = g.f

abbrev pub ghost-block_at : goal.ghost-block_at
ghost-block_at g a = g.f
