use Rattle.blake2_simd.specs.Family.{blake2b}
use Rattle.blake2_compress.proofs.params.blake2b.block_of.Given as goal

abbrev pub ghost-parameter_block : goal.ghost-parameter_block
ghost-parameter_block a = blake2b
