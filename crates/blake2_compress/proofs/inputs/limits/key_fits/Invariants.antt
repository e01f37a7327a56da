use Rattle.blake2_compress.proofs.inputs.limits.key_fits.Given as goal

abbrev pub ghost-given_key_fits : goal.ghost-given_key_fits
ghost-given_key_fits g a = g.f
