-- Made by tools/twins.py from proofs/params/blake2b/block_of/Invariants.antt.
use Rattle.blake2_simd.specs.Family.{blake2s}
use Rattle.blake2_compress.proofs.params.blake2s.block_of.Given as goal

abbrev pub ghost-parameter_block : goal.ghost-parameter_block
ghost-parameter_block a = blake2s
