use Rattle.blake2_simd.specs.Family.{blake2b}
use Rattle.blake2_transcript.proofs.steps.blake2b.is_readable.Given as goal

abbrev pub ghost-is_run : goal.ghost-is_run
ghost-is_run a = blake2b

abbrev pub ghost-has_key : goal.ghost-has_key
ghost-has_key a = blake2b
