use Rattle.blake2_simd.specs.Family.{blake2b}
use Rattle.blake2_simd.specs.Rows.{chaining_words}
use Rattle.blake2_compress.specs.Views.{input_of}
use Rattle.blake2_transcript.proofs.LastDifference.{ComparedSteps}
use Rattle.blake2_transcript.proofs.collision.blake2b.last_pair.Given as goal

abbrev pub ghost-step_count : goal.ghost-step_count
ghost-step_count a = blake2b

abbrev pub ghost-entry_at : goal.ghost-entry_at
ghost-entry_at a = blake2b

abbrev pub invariant-loop-i : goal.invariant-loop-i
invariant-loop-i l = ComparedSteps 128 blake2b l.output_size (input_of l.a) (input_of l.b) l.i
    (chaining_words l.chain_a) (chaining_words l.chain_b) l.kept
