use Rattle.std.proofs.Common.{◌∙◌}
use Rattle.blake2_tree.specs.TreeRoot.{tree_parameters, tree_root}
use Rattle.b2_commands.specs.ReadOptions.{given_options}
use Rattle.b2_commands.specs.Tasks.{root_with}
use Rattle.b2_commands.proofs.PrintedRoot.{printed_line-is_root}
use Rattle.b2_commands.proofs.tree.print_root.Goals as goal

pub returns-clause-root : goal.returns-clause-root
returns-clause-root g c =
    let taken = c.absorb_source.new.hasher in
    printed_line-is_root (root_with g.row.N c.args.leaf_length (given_options c.args.options.now))
    c.new-hasher.result taken c.finalize.result c.print_digest.result _ _ _
    (λ y. c.new-hasher.ensures.root y
    ∙ (λ k. tree_root g.row.N (tree_parameters (c.salt-salt.ensures k)
    (c.persona-persona.ensures k) c.args.leaf_length) y))
    c.new-hasher.ensures.nothing c.in_ok-absorb_source.ensures.whole taken.counted
    c.finalize.ensures c.print_digest.ensures.line
