use Rattle.blake2_tree.proofs.PlanParts.{digests_start-fits_64_bits, part-is_in_order}
use Rattle.std.proofs.Common.{rules, arith, ◌*◌, ◌/◌, ◌<◌, ◌^◌}
use Rattle.blake2_tree.proofs.thread_plan.Plan.part.Goals as goal

pub overflow_mul-result : goal.overflow_mul-result
overflow_mul-result c =
    let p = c.args.self.now in
    let h : 64 * (c.args.i * (p.part_length / p.leaf_length)) < 2 ^ 64 =
    digests_start-fits_64_bits p c.args.i c.requires.plan.parts c.requires.within in
    omega (arith, h)

pub returns-then-i-self-clause-is : goal.returns-then-i-self-clause-is
returns-then-i-self-clause-is c = search rules

pub returns-then-i-self-clause-order : goal.returns-then-i-self-clause-order
returns-then-i-self-clause-order c =
    part-is_in_order c.args.self.now c.args.i _ c.requires.plan c.requires.within
    (returns-then-i-self-clause-is c)

pub returns-else-i-self-clause-is : goal.returns-else-i-self-clause-is
returns-else-i-self-clause-is c = search rules

pub returns-else-i-self-clause-order : goal.returns-else-i-self-clause-order
returns-else-i-self-clause-order c =
    part-is_in_order c.args.self.now c.args.i _ c.requires.plan c.requires.within
    (returns-else-i-self-clause-is c)
