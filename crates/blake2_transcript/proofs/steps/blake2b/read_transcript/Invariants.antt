use Rattle.blake2_simd.specs.Family.{blake2b}
use Rattle.blake2_transcript.proofs.steps.blake2b.read_transcript.Given as goal

abbrev pub ghost-input_of_entries : goal.ghost-input_of_entries
ghost-input_of_entries a = blake2b
