-- Made by tools/twins.py from proofs/steps/blake2b/transcript/Invariants.antt.
use Rattle.blake2_simd.specs.Family.{blake2s}
use Rattle.blake2_transcript.proofs.steps.blake2s.transcript.Given as goal

abbrev pub ghost-entries : goal.ghost-entries
ghost-entries a = blake2s
