use Rattle.blake2_simd.specs.Family.{blake2b}
use Rattle.blake2_compress.proofs.inputs.blake2b.accepts.Given as goal

abbrev pub ghost-accepts : goal.ghost-accepts
ghost-accepts a = blake2b
