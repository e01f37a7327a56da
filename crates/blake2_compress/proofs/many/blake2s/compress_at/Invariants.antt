-- Made by tools/twins.py from proofs/many/blake2b/eight/compress_at/Invariants.antt.
use Rattle.blake2_simd.specs.Family.{blake2s}
use Rattle.blake2_compress.proofs.many.blake2s.compress_at.Given as goal

abbrev pub ghost-block_at : goal.ghost-block_at
ghost-block_at a = blake2s
