-- Made by tools/twins.py from proofs/many/blake2b/eight/compress_all/Invariants.antt.
use Rattle.blake2_simd.specs.Family.{blake2s}
use Rattle.blake2_compress.proofs.many.blake2s.compress_all.Given as goal

abbrev pub ghost-step_count : goal.ghost-step_count
ghost-step_count a = blake2s

abbrev pub ghost-counted : goal.ghost-counted
ghost-counted a = blake2s
