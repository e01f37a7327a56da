use Rattle.blake2_simd.specs.Family.{blake2b}
use Rattle.blake2_transcript.proofs.steps.blake2b.transcript.Given as goal

abbrev pub ghost-entries : goal.ghost-entries
ghost-entries a = blake2b
