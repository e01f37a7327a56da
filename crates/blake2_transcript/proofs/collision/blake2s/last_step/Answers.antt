-- Made by tools/twins.py from proofs/collision/blake2b/last_step/Answers.antt.
use Rattle.std.proofs.Common.{arith}
use Rattle.blake2_simd.specs.Family.{blake2s}
use Rattle.blake2_compress.specs.Views.{input_of}
use Rattle.blake2_transcript.proofs.LastDifference.{input_start-is_first_chain}
use Rattle.blake2_transcript.proofs.LastDifference.{step_output-is_next_chain}
use Rattle.blake2_transcript.proofs.LastDifference.{last_entry_step-is_last_step}
use Rattle.blake2_transcript.proofs.collision.blake2s.last_step.Goals as goal

pub loop-i-init : goal.loop-i-init
loop-i-init c =
    input_start-is_first_chain blake2s _ (input_of c.args.input.now) _
    c.input_start_rows-chain.ensures

pub loop-i-preserved : goal.loop-i-preserved
loop-i-preserved c =
    step_output-is_next_chain blake2s c.args.output_size _ c.loop-i.i _ _ _ c.loop-i.invariant
    (c.entry_at.ensures c.args.output_size) c.output_of-chain.ensures (omega arith)

pub returns : goal.returns
returns c =
    last_entry_step-is_last_step blake2s c.args.output_size _ c.loop-i.i _ _ _ (omega arith)
    (omega arith)
    c.loop-i.invariant (c.entry_at-2.ensures c.args.output_size)
