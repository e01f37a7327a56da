use Rattle.std.proofs.Common.{◌≡◌, ℕ, ◌+◌, ◌-◌, ◌*◌, List, [], ◌++◌, length, take, drop, sym, ap}
use Rattle.std.proofs.Common.{◌∙◌, drop-drop, arith, rules}
use borrow.Rule.Slice.PartMut.{put_mid}
use Rattle.blake2_tree.specs.TreeRoot.{TreeParameters, tree_parameters, leaf_digests}
use Rattle.blake2_tree.specs.LeafRanges.{range_digests, overwritten_from}
use Rattle.blake2_tree.proofs.RangeLaws.{leaf_digests-of_replaced_range}
use Rattle.blake2_examples.proofs.trees.root_after_change.Goals as goal

-- The digests after the call are those of the old leaves, with those of the new one among them.
put_mid-is_overwritten_leaf_digest : (p : TreeParameters) (first : ℕ) (d new leaf old : List ℕ)
    → new ≡ leaf → length new ≡ 64 → d ≡ leaf_digests p old
    → put_mid (64 * first) (64 * first + 64 - 64 * first) d new
    ≡ overwritten_from (64 * first) leaf (leaf_digests p old)
put_mid-is_overwritten_leaf_digest p first d new leaf old is long are =
    let at : ℕ = 64 * first in
    let step : at + (at + 64 - at) ≡ at + length leaf = omega (arith, long, ap length is) in
    let behind : drop (at + 64 - at) (drop at d) ≡ drop (at + length leaf) (leaf_digests p old) =
    drop-drop (at + 64 - at) at d ∙ (λ i. drop (step i) (are i)) in
    λ i. take at (are i) ++ (is i ++ behind i)

pub returns-clause-root : goal.returns-clause-root
returns-clause-root c = λ old are placed.
    let p : TreeParameters = tree_parameters [] [] 65536 in
    let new : List ℕ = c.hash_leaves.new.digests in
    let leaf : List ℕ = range_digests p c.args.first c.args.ends c.args.leaf.now in
    let long : length new ≡ 64 = search rules in
    c.root_of_leaves.ensures.changes old c.args.leaf.now c.args.first c.args.ends c.requires.range
    placed
    (put_mid-is_overwritten_leaf_digest p c.args.first c.args.digests.now new leaf old
    c.hash_leaves.ensures.digests
    long are)

pub returns-clause-digests : goal.returns-clause-digests
returns-clause-digests c = λ old are placed.
    let p : TreeParameters = tree_parameters [] [] 65536 in
    let new : List ℕ = c.hash_leaves.new.digests in
    let leaf : List ℕ = range_digests p c.args.first c.args.ends c.args.leaf.now in
    let long : length new ≡ 64 = search rules in
    put_mid-is_overwritten_leaf_digest p c.args.first c.args.digests.now new leaf old
    c.hash_leaves.ensures.digests
    long are
    ∙ sym (leaf_digests-of_replaced_range p c.args.first c.args.ends old c.args.leaf.now
    (omega arith)
    c.requires.range placed)
