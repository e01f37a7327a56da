use Rattle.blake2_tree.proofs.PlanParts.{leaves_bytes-below_2_to_60, fours_bytes-below_2_to_60}
use Rattle.std.proofs.Common.{rules, arith, ◌≡◌, ℕ, ◌*◌, ◌/◌, ◌<◌, ◌^◌, max, ap}
use Rattle.blake2_tree.proofs.thread_plan.Limits.part_leaves.Goals as goal

pub overflow_mul-leaves : goal.overflow_mul-leaves
overflow_mul-leaves c =
    let h : c.min-leaves.result * c.from-leaf.result < 2 ^ 60 =
    leaves_bytes-below_2_to_60 c.from-leaf.result c.args.length c.min-leaves.result (omega arith)
    (omega arith) c.requires.length (search rules) in
    omega (arith, h)

pub returns-then-leaves-leaf-clause-fits : goal.returns-then-leaves-leaf-clause-fits
returns-then-leaves-leaf-clause-fits c =
    leaves_bytes-below_2_to_60 c.args.leaf_length c.args.length c.min-leaves.result
    c.requires.leaf_length
    (omega arith) c.requires.length (omega arith)

pub returns-else-leaves-leaf-clause-fits : goal.returns-else-leaves-leaf-clause-fits
returns-else-leaves-leaf-clause-fits c =
    let size : ℕ = c.args.leaf_length in
    let most : ℕ = c.args.self.now.most_bytes in
    let leaves : ℕ = c.min-leaves.result in
    let short : leaves * size < 2 ^ 60 =
    leaves_bytes-below_2_to_60 size c.args.length leaves c.requires.leaf_length (omega arith)
    c.requires.length
    (omega arith) in
    let is : c.max.result ≡ max (most / size / 4 * 4) 1 = search rules in
    let long : most < leaves * size = search rules in
    let fits = fours_bytes-below_2_to_60 most size leaves c.requires.leaf_length (omega arith) long
    short in
    omega (arith, ap (λ m. m * size) is, fits)
