use Rattle.blake2_simd.specs.Family.{blake2b}
use Rattle.blake2_compress.proofs.many.blake2b.eight.compress_at.Given as goal

abbrev pub ghost-block_at : goal.ghost-block_at
ghost-block_at a = blake2b
