-- Made by tools/twins.py from proofs/steps/blake2b/read_transcript/Invariants.antt.
use Rattle.blake2_simd.specs.Family.{blake2s}
use Rattle.blake2_transcript.proofs.steps.blake2s.read_transcript.Given as goal

abbrev pub ghost-input_of_entries : goal.ghost-input_of_entries
ghost-input_of_entries a = blake2s
