use Rattle.std.proofs.Common.{arith, inl, inr}
use Rattle.blake2_simd.specs.Family.{blake2b}
use Rattle.blake2_transcript.proofs.LastDifference.{ComparedSteps-at_start, ComparedSteps-next}
use Rattle.blake2_transcript.proofs.LastDifference.{ComparedSteps-gives_witness}
use Rattle.blake2_transcript.proofs.collision.blake2b.last_pair.Goals as goal
use Rattle.blake2_transcript.proofs.collision.blake2b.last_pair.Goals.{then-not-same_step}
use Rattle.blake2_transcript.proofs.collision.blake2b.last_pair.Goals.{else-not-same_step}

pub loop-i-init : goal.loop-i-init
loop-i-init c =
    ComparedSteps-at_start 128 blake2b _ _ _ _ _ c.input_start_rows-chain_a.ensures
    c.input_start_rows-chain_b.ensures

pub loop-i-preserved : goal.loop-i-preserved
loop-i-preserved c =
    ComparedSteps-next 128 blake2b c.args.output_size _ _ c.loop-i.i _ _ _ _ _ _ c.loop-i.kept _
    c.loop-i.invariant (omega arith) (omega arith)
    (c.entry_at-x.ensures c.args.output_size) (c.entry_at-y.ensures c.args.output_size)
    c.output_of-chain_a.ensures c.output_of-chain_b.ensures
    (elim c.if-not-same_step.branch [
      | then-not-same_step w ↦ inr (
        _,
        w.kept-is,
        w.step_at.ensures,
        w.step_at-then-not-same_step.ensures,
        λ e. cc (c.same_step.ensures.1 e, w.if-not-same_step.true),
      )
      | else-not-same_step w ↦
          inl (c.same_step.ensures.0 w.if-not-same_step.false, w.kept-is)
    ])

pub returns : goal.returns
returns c =
    ComparedSteps-gives_witness 128 blake2b c.args.output_size _ _ c.loop-i.i _ _ c.loop-i.kept
    c.requires.a c.requires.b c.requires.size c.requires.collide
    c.requires.numbers (omega arith) c.loop-i.invariant
