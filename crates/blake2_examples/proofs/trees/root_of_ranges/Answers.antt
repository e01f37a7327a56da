use Rattle.std.proofs.Common.{◌≡◌, ℕ, ◌+◌, ◌-◌, ◌*◌, ◌/◌, inl, true, false, List, [], ◌∷◌, ◌++◌}
use Rattle.std.proofs.Common.{length, drop, ap, ◌∙◌, append-nil, arith, rules, length-drop}
use borrow.Rule.Slice.PartMut.{put_mid}
use Rattle.blake2_tree.specs.TreeRoot.{TreeParameters, tree_parameters, leaf_count, tree_root}
use Rattle.blake2_tree.specs.LeafRanges.{range_digests, digests_of_cut_ranges}
use Rattle.blake2_tree.specs.LeafRanges.{IsCutAtLeafBoundaries}
use Rattle.blake2_tree.proofs.RangeLaws.{leaf_count-is_quotient, length-range_digests}
use Rattle.blake2_examples.proofs.Slices.{put_mid-overwrites_end}
use Rattle.blake2_examples.proofs.trees.root_of_ranges.Goals as goal

pub returns : goal.returns
returns c =
    let p : TreeParameters = tree_parameters [] [] 65536 in
    let front : List ℕ = c.args.front.now in
    let last : List ℕ = c.args.last.now in
    let count : ℕ = c.leaf_count-count.result in
    let at : ℕ = 64 * count in
    let d : List ℕ = c.args.digests.now in
    let a : List ℕ = c.hash_leaves.new.digests in
    let b : List ℕ = c.hash_leaves-2.new.digests in
    let long : length a ≡ at = search rules in
    let size : length b ≡ leaf_count 65536 (length last) * 64 =
    ap length c.hash_leaves-2.ensures.digests ∙ length-range_digests p count true last in
    let same : length b ≡ length (drop at d) = omega (arith, size, length-drop at d) in
    let next : count ≡ 0 + length front / 65536 =
    omega (
      arith,
      c.leaf_count-count.ensures,
      leaf_count-is_quotient 65536 front (omega arith) c.requires.whole,
    ) in
    let cut : IsCutAtLeafBoundaries 65536 (front ∷ []) last = record {
      whole = search (rules, c.requires.whole);
      some = inl c.requires.some;
    } in
    let joined : put_mid at (length (a ++ drop at d) - at) (a ++ drop at d) b
    ≡ digests_of_cut_ranges p 0 (front ∷ []) last =
    put_mid-overwrites_end at a b (drop at d) long same
    ∙ (λ i. c.hash_leaves.ensures.digests i ++ c.hash_leaves-2.ensures.digests i)
    ∙ ap (λ n. range_digests p 0 false front ++ range_digests p n true last) next in
    c.root_of_leaves.ensures.cuts (front ∷ []) last cut joined
    ∙ ap (λ f. tree_root 64 p (f ++ last)) (append-nil front)
