use Rattle.blake2_simd.specs.Family.{blake2b}
use Rattle.blake2_compress.proofs.many.blake2b.compress_all.Given as goal

abbrev pub ghost-step_count : goal.ghost-step_count
ghost-step_count a = blake2b

abbrev pub ghost-counted : goal.ghost-counted
ghost-counted a = blake2b
