use Rattle.blake2_transcript.proofs.steps.reader.input_of_entries.Given as goal

abbrev pub ghost-key_and_message : goal.ghost-key_and_message
ghost-key_and_message g a = g.f
