use Rattle.blake2_simd.specs.Family.{blake2b}
use Rattle.blake2_compress.proofs.params.blake2b.parameters_in.Given as goal

abbrev pub ghost-tree_in : goal.ghost-tree_in
ghost-tree_in a = blake2b
