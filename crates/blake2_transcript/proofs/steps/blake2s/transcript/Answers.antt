-- Made by tools/twins.py from proofs/steps/blake2b/transcript/Answers.antt.
use Rattle.blake2_simd.specs.Family.{blake2s}
use Rattle.blake2_transcript.proofs.RunTranscripts.{IsTranscript-of_run_entries}
use Rattle.blake2_transcript.proofs.steps.blake2s.transcript.Goals as goal

pub returns-clause-transcript : goal.returns-clause-transcript
returns-clause-transcript c =
    IsTranscript-of_run_entries blake2s c.args.output_size _ _ _ _ c.input_parameters.ensures
    c.parameter_words-words.ensures (c.in_ok-entries.ensures c.args.output_size)
