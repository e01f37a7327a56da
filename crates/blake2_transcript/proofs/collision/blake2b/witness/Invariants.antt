use Rattle.blake2_simd.specs.Family.{blake2b}
use Rattle.blake2_transcript.proofs.collision.blake2b.witness.Given as goal

abbrev pub ghost-are_same_inputs : goal.ghost-are_same_inputs
ghost-are_same_inputs a = blake2b
