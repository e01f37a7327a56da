use Rattle.blake2_compress.proofs.inputs.limits.accepts.Given as goal

abbrev pub ghost-key_fits : goal.ghost-key_fits
ghost-key_fits g a = g.f
