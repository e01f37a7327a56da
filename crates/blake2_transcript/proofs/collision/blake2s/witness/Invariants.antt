-- Made by tools/twins.py from proofs/collision/blake2b/witness/Invariants.antt.
use Rattle.blake2_simd.specs.Family.{blake2s}
use Rattle.blake2_transcript.proofs.collision.blake2s.witness.Given as goal

abbrev pub ghost-are_same_inputs : goal.ghost-are_same_inputs
ghost-are_same_inputs a = blake2s
