use Rattle.blake2_tree.proofs.PlanDigests.{message_plan-has_digests}
use Rattle.blake2_tree.proofs.PlanParts.{plan-is_consistent}
use Rattle.std.proofs.Common.{arith}
use Rattle.blake2_tree.proofs.thread_plan.Plan.of_message.Goals as goal

pub returns-clause-plan : goal.returns-clause-plan
returns-clause-plan c =
    plan-is_consistent c.args.limits.now c.threads_for-threads.result c.args.leaf_length
    c.args.start
    c.args.length 1 c.of.result c.threads_for-threads.ensures.some c.of.ensures.whole
    c.of.ensures.is (λ one. c.of.ensures.rest)
    (λ none. absurd (omega (arith, none, c.of.ensures.is.ends)))

pub returns-clause-digests : goal.returns-clause-digests
returns-clause-digests c = message_plan-has_digests c.of.result c.of.ensures.whole
    c.of.ensures.is.ends
