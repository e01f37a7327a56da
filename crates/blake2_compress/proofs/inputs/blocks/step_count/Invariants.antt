use Rattle.blake2_compress.proofs.inputs.blocks.step_count.Given as goal

abbrev pub ghost-counted : goal.ghost-counted
ghost-counted g a = g.f
