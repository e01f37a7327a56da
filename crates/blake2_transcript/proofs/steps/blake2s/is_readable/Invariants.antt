-- Made by tools/twins.py from proofs/steps/blake2b/is_readable/Invariants.antt.
use Rattle.blake2_simd.specs.Family.{blake2s}
use Rattle.blake2_transcript.proofs.steps.blake2s.is_readable.Given as goal

abbrev pub ghost-is_run : goal.ghost-is_run
ghost-is_run a = blake2s

abbrev pub ghost-has_key : goal.ghost-has_key
ghost-has_key a = blake2s
