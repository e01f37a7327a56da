use Rattle.blake2_simd.specs.Family.{blake2b}
use Rattle.blake2_transcript.proofs.LastDifference.{different_last_steps-are_witness}
use Rattle.blake2_transcript.proofs.collision.blake2b.witness.Goals as goal

pub returns-then-not-same_step-clause-pair : goal.returns-then-not-same_step-clause-pair
returns-then-not-same_step-clause-pair c =
    let of_a = c.last_step-last_a.ensures in
    let of_b = c.last_step-last_b.ensures in
    different_last_steps-are_witness blake2b c.args.output_size _ _ _ _ _ _
    ((c.same_digest.ensures _ _ of_a of_b).0 c.if-not-same_digest.false)
    (λ e. cc (c.same_step.ensures.1 e, c.if-not-same_step.true)) of_a of_b c.step_at.ensures
    c.step_at-then-not-same_step.ensures
