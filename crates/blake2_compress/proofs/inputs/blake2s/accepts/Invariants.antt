-- Made by tools/twins.py from proofs/inputs/blake2b/accepts/Invariants.antt.
use Rattle.blake2_simd.specs.Family.{blake2s}
use Rattle.blake2_compress.proofs.inputs.blake2s.accepts.Given as goal

abbrev pub ghost-accepts : goal.ghost-accepts
ghost-accepts a = blake2s
