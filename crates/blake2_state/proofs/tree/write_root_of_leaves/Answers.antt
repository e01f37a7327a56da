use Rattle.std.proofs.Common.{◌≡◌, ℕ, Bool, true, List, [], ◌++◌, length, drop, sym, ap, subst, ◌∙◌}
use Rattle.std.proofs.Common.{append-nil, rules, arith}
use Rattle.std.proofs.lemmas.List.{drop_all}
use Rattle.blake2_digest.specs.States.{digest_now}
use Rattle.blake2_state.specs.Blake2b.{meaning}
use Rattle.blake2_tree.specs.NodeViews.{node_digest}
use Rattle.blake2_tree.specs.TreeRoot.{TreeParameters, tree_parameters}
use Rattle.blake2_tree.specs.LeafRanges.{IsRootOfCuts, IsRootAfterReplacement}
use Rattle.blake2_tree.proofs.RangeLaws.{root_over_digests-is_root_of_cuts}
use Rattle.blake2_tree.proofs.RangeLaws.{root_over_digests-after_replacement}
use Rattle.blake2_state.proofs.tree.write_root_of_leaves.Goals as goal

-- The root over these digests is written.
pub returns-clause-root : goal.returns-clause-root
returns-clause-root c =
    let n : ℕ = length c.args.out.now in
    let s : TreeParameters = tree_parameters c.args.salt.now c.args.persona.now c.args.leaf_length in
    let d : List ℕ = c.args.digests.now in
    let last = c.update.new.self in
    let flag : meaning.last_node last ≡ true =
    c.update.ensures.updated.last_node ∙ c.root_state-root.ensures.last in
    let now : digest_now meaning last ≡ node_digest n s 0 1 true d =
    ap (λ (b : Bool). meaning.future last b []) flag
    ∙ c.update.ensures.updated.future true []
    ∙ c.root_state-root.ensures.root.future true (d ++ [])
    ∙ ap (node_digest n s 0 1 true) (append-nil d) in
    let size : last.output_size ≡ n = search rules in
    let rest : drop last.output_size c.args.out.now ≡ [] =
    drop_all last.output_size c.args.out.now (omega arith) in
    c.write_digest.ensures ∙ (λ i. now i ++ rest i) ∙ append-nil (node_digest n s 0 1 true d)

pub returns-clause-cuts : goal.returns-clause-cuts
returns-clause-cuts c =
    let p = tree_parameters c.args.salt.now c.args.persona.now c.args.leaf_length in
    subst (IsRootOfCuts (length c.args.out.now) p c.args.digests.now) (sym (returns-clause-root c))
    (root_over_digests-is_root_of_cuts (length c.args.out.now) p c.args.digests.now
    c.requires.leaf_length)

pub returns-clause-changes : goal.returns-clause-changes
returns-clause-changes c =
    let p = tree_parameters c.args.salt.now c.args.persona.now c.args.leaf_length in
    subst (IsRootAfterReplacement (length c.args.out.now) p c.args.digests.now)
    (sym (returns-clause-root c))
    (root_over_digests-after_replacement (length c.args.out.now) p c.args.digests.now
    c.requires.leaf_length)
