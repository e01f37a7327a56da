use Rattle.blake2_tree.proofs.PlanParts.{lengths-are_plan_of_update, plan-is_consistent}
use Rattle.blake2_tree.proofs.PlanParts.{plan_of_update-has_rest}
use Rattle.blake2_tree.proofs.PlanDigests.{update_plan-has_leaf_digests}
use Rattle.blake2_tree.specs.PartPlans.{threads_for}
use Rattle.std.proofs.Common.{rules, arith}
use Rattle.blake2_tree.proofs.thread_plan.Plan.of_update.Goals as goal

pub returns-clause-update : goal.returns-clause-update
returns-clause-update c =
    lengths-are_plan_of_update c.args.leaf_length c.args.counted c.args.length _
    c.requires.leaf_length
    (search rules) (search rules) (search rules)

pub returns-clause-is : goal.returns-clause-is
returns-clause-is c = search rules

pub returns-clause-plan : goal.returns-clause-plan
returns-clause-plan c =
    plan-is_consistent c.args.limits.now (threads_for c.args.limits.now c.args.length)
    c.args.leaf_length _ _ 0 _
    (omega (arith, c.threads_for-threads.ensures.some, c.threads_for-threads.ensures.is))
    (search rules) (returns-clause-is c)
    (λ one. absurd (omega (arith, one, c.of.ensures.is.ends)))
    (λ none. plan_of_update-has_rest c.args.leaf_length c.args.counted c.args.length _
    (returns-clause-update c)
    (returns-clause-is c).leaf_length (omega (arith, c.requires.length)))

pub returns-clause-digests : goal.returns-clause-digests
returns-clause-digests c = update_plan-has_leaf_digests c.of.result c.of.ensures.whole
    c.of.ensures.is.ends
