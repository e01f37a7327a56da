use Rattle.std.proofs.Common.{take, length, ap, sym, subst, ◌∙◌}
use Rattle.blake2_digest.proofs.Texts.{take-padded}
use Rattle.blake2_state.specs.Blake2b.{meaning}
use Rattle.blake2_tree.specs.NodeViews.{IsFreshLeaf}
use Rattle.blake2_tree.specs.TreeRoot.{tree_parameters, tree_root}
use Rattle.blake2_tree.specs.OpenTrees.{open_tree, future}
use Rattle.blake2_tree.proofs.RootsOfCalls.{future-of_new_tree_is_root}
use Rattle.blake2_state.proofs.tree.TreeState.new_accepted.Goals as goal

-- The fields keep the salt and the personalization.
pub returns-clause-shared : goal.returns-clause-shared
returns-clause-shared c =
    let salt = c.args.salt.now in
    let persona = c.args.persona.now in
    let salt_is = ap (take (length salt)) c.padded.ensures ∙ take-padded 16 salt in
    let persona_is = ap (take (length persona)) c.padded-2.ensures ∙ take-padded 16 persona in
    λ k. tree_parameters (salt_is k) (persona_is k) (c.from.ensures k)

pub returns-clause-root : goal.returns-clause-root
returns-clause-root c = λ y.
    ap (λ s. future (open_tree meaning meaning s 0 c.node_state-2.result c.node_state.result) y)
    (returns-clause-shared c ∙ sym c.new-nodes.ensures)
    ∙ future-of_new_tree_is_root _ _ c.new-nodes.result.some_length c.node_state.ensures.fresh
    c.node_state-2.ensures.fresh y
    ∙ ap (λ s. tree_root c.args.output_size s y) c.new-nodes.ensures

pub returns-clause-opened : goal.returns-clause-opened
returns-clause-opened c = λ empty.
    subst (λ s. IsFreshLeaf meaning s 0 c.node_state.result)
    (c.new-nodes.ensures ∙ sym (returns-clause-shared c))
    record { digests = c.node_state.ensures.fresh.future; empty = empty }
