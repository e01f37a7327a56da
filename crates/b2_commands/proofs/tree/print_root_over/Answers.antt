use Rattle.std.proofs.Common.{◌≡◌, ◌∙◌, Ok, false, rules}
use Rattle.blake2.specs.Family.{blake2b}
use Rattle.blake2.specs.Hash.{digest}
use Rattle.blake2_tree.specs.TreeRoot.{root_input_over_digests, tree_parameters}
use Rattle.b2_commands.specs.ArgumentTasks.{blake2b_of}
use Rattle.b2_commands.specs.LeafDigests.{read_digests}
use Rattle.b2_commands.specs.ReadOptions.{given_options}
use Rattle.b2_commands.specs.Tasks.{root_over_digests_with}
use Rattle.b2_commands.proofs.RootLines.{EndsTask-to_root}
use Rattle.b2_commands.proofs.tree.print_root_over.Goals as goal

pub returns : goal.returns
returns g c =
    let given = given_options c.args.options.now in
    let text = c.in_ok-text.text.items in
    let digests = c.in_ok-digests.digests.items in
    let unfailed : g.S.Source.failed c.read_all.new.source ≡ false = search rules in
    let read : read_digests text ≡ Ok digests =
    rw c.as_slice.ensures.value at c.in_ok-digests.ensures.digests in
    let is : c.root_of_leaves-root.result
    ≡ root_over_digests_with g.row.N c.args.leaf_length given digests =
    c.root_of_leaves-root.ensures.root
    ∙ (λ k. digest blake2b g.row.N (root_input_over_digests (tree_parameters (c.salt-salt.ensures k)
    (c.persona-persona.ensures k) c.args.leaf_length) (c.as_slice-2.ensures.value k))) in
    rw unfailed (EndsTask-to_root (blake2b_of g.row.N) c.args.leaf_length given text digests
    c.print_digest.result _ _ _ _ (search rules) c.in_ok-text.ensures.whole read
    c.print_digest.ensures.write c.print_digest.ensures.fault
    (rw is at c.print_digest.ensures.line))
