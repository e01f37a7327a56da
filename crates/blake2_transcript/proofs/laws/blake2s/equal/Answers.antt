-- Made by tools/twins.py from proofs/laws/blake2b/equal/Answers.antt.
use Rattle.blake2_simd.specs.Family.{blake2s}
use Rattle.blake2_transcript.proofs.DeterminedInputs.{TranscriptDeterminesInput-holds}
use Rattle.blake2_transcript.proofs.EqualTranscripts.{pointwise_test-decides_equality}
use Rattle.blake2_transcript.proofs.laws.blake2s.equal.Goals as goal

pub returns-clause-equal : goal.returns-clause-equal
returns-clause-equal c = pointwise_test-decides_equality _ _ _ _ c.eq.result c.eq.ensures

pub returns-clause-law : goal.returns-clause-law
returns-clause-law c = TranscriptDeterminesInput-holds blake2s
