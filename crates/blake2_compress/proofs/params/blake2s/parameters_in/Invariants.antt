-- Made by tools/twins.py from proofs/params/blake2b/parameters_in/Invariants.antt.
use Rattle.blake2_simd.specs.Family.{blake2s}
use Rattle.blake2_compress.proofs.params.blake2s.parameters_in.Given as goal

abbrev pub ghost-tree_in : goal.ghost-tree_in
ghost-tree_in a = blake2s
