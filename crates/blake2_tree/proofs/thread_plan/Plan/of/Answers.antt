use Rattle.blake2_tree.proofs.PlanParts.{leaves_bytes-multiple_of_leaf, leaves_bytes-are_positive}
use Rattle.blake2_tree.proofs.PlanParts.{plan-has_parts_within_limits}
use Rattle.std.proofs.Common.{rules, ◌*◌, ◌≡◌, ◌%◌}
use Rattle.blake2_tree.proofs.thread_plan.Plan.of.Goals as goal

pub returns-clause-whole : goal.returns-clause-whole
returns-clause-whole c =
    record {
      some = search rules;
      most = search rules;
      part = leaves_bytes-are_positive c.part_leaves-leaves.result c.from.result (search rules)
          (search rules);
      whole = let h : (c.part_leaves-leaves.result * c.from.result) % c.from.result ≡ 0 =
          leaves_bytes-multiple_of_leaf c.part_leaves-leaves.result c.from.result in search rules;
      order = search rules;
      fits = search rules;
      flag = search rules;
      count = search rules;
    }

pub returns-clause-parts : goal.returns-clause-parts
returns-clause-parts c =
    plan-has_parts_within_limits c.args.limits.now c.args.threads c.args.leaf_length c.args.length _
    c.requires.leaf_length c.requires.threads (search rules)
