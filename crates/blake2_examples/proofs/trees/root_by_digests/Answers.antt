use Rattle.std.proofs.Common.{◌≡◌, ℕ, ◌+◌, ◌-◌, ◌*◌, ◌/◌, ◌%◌, ◌^◌, ◌<◌, inr, false, List, [], ◌∷◌}
use Rattle.std.proofs.Common.{◌++◌, length, drop, sym, ap, subst, ◌∙◌, append-nil, arith, rules}
use Rattle.std.proofs.Common.{length-append, length-drop}
use Rattle.std.specs.List.{All}
use borrow.Rule.Slice.PartMut.{put_mid}
use Rattle.blake2_tree.specs.TreeRoot.{TreeParameters, tree_parameters, tree_root, leaf_count}
use Rattle.blake2_tree.specs.LeafRanges.{range_digests, AreWholeLeaves}
use Rattle.blake2_tree.specs.LeafUpdates.{next_leaf_index, joined_range_digests}
use Rattle.blake2_tree.specs.TreeHashers.{held_tree, count as count-of}
use Rattle.blake2_tree.proofs.RangeLaws.{leaf_count-is_quotient, length-range_digests}
use Rattle.blake2_examples.proofs.Slices.{put_mid-overwrites_end}
use Rattle.blake2_examples.proofs.trees.root_by_digests.Goals as goal

abbrev p : TreeParameters
p = tree_parameters [] [] 65536

-- The digests of the two ranges, one after the other.
put_mid-is_joined_range_digests : (next : ℕ) (middle more d a b : List ℕ)
    → AreWholeLeaves 65536 middle
    → AreWholeLeaves 65536 more
    → length d ≡ 64 * (leaf_count 65536 (length middle) + leaf_count 65536 (length more))
    → a ≡ range_digests p next false middle
    → b ≡ range_digests p (next + leaf_count 65536 (length middle)) false more
    → let at : ℕ = 64 * leaf_count 65536 (length middle) in
    put_mid at (length (a ++ drop at d) - at) (a ++ drop at d) b
    ≡ joined_range_digests p next (middle ∷ more ∷ [])
put_mid-is_joined_range_digests next middle more d a b whole_middle whole_more room is_a is_b =
    let count : ℕ = leaf_count 65536 (length middle) in
    let at : ℕ = 64 * count in
    let long : length a ≡ at =
    ap length is_a ∙ length-range_digests p next false middle ∙ omega arith in
    let size : length b ≡ leaf_count 65536 (length more) * 64 =
    ap length is_b ∙ length-range_digests p (next + count) false more in
    let same : length b ≡ length (drop at d) = omega (arith, size, room, length-drop at d) in
    let first : count ≡ length middle / 65536 =
    leaf_count-is_quotient 65536 middle (omega arith) whole_middle in
    put_mid-overwrites_end at a b (drop at d) long same
    ∙ (λ i. is_a i ++ is_b i)
    ∙ ap (λ n. range_digests p next false middle ++ range_digests p (next + n) false more) first
    ∙ ap (λ r. range_digests p next false middle ++ r)
    (sym (append-nil (range_digests p (next + length middle / 65536) false more)))

pub update_leaves-requires : goal.update_leaves-requires
update_leaves-requires c =
    let begun = c.update.new.self in
    let first : List ℕ = c.args.first.now in
    let middle : List ℕ = c.args.middle.now in
    let more : List ℕ = c.args.more.now in
    let last : List ℕ = c.args.last.now in
    let next : ℕ = c.counted-next.result / 65536 in
    let count : ℕ = c.leaf_count-count.result in
    let d : List ℕ = c.args.digests.now in
    let a : List ℕ = c.hash_leaves.new.digests in
    let b : List ℕ = c.hash_leaves-2.new.digests in
    let shared = c.update.ensures.shared ∙ c.new-hasher.ensures.shared in
    let size : begun.nodes.leaf_length ≡ 65536 = ap (λ s. s.leaf_length) shared in
    let counts : count-of begun ≡ length first =
    omega (arith, c.update.ensures.count, c.new-hasher.ensures.nothing) in
    let all : List ℕ = put_mid (64 * count) (length (a ++ drop (64 * count) d) - 64 * count)
    (a ++ drop (64 * count) d) b in
    let n : ℕ = length middle / 65536 + length more / 65536 in
    let long_a : length a ≡ 64 * count =
    ap length c.hash_leaves.ensures.digests ∙ length-range_digests p next false middle
    ∙ omega (arith, c.leaf_count-count.ensures) in
    let long_b : length b ≡ leaf_count 65536 (length more) * 64 =
    ap length c.hash_leaves-2.ensures.digests ∙ length-range_digests p (next + count) false more in
    let same : length b ≡ length (drop (64 * count) d) =
    omega (arith, long_b, c.requires.room, c.leaf_count-count.ensures, length-drop (64 * count) d) in
    let many : length all ≡ n * 64 = omega (
      arith,
      ap length (put_mid-overwrites_end (64 * count) a b (drop (64 * count) d) long_a same),
      length-append a b,
      long_a,
      long_b,
      c.leaf_count-count.ensures,
      leaf_count-is_quotient 65536 middle (omega arith) c.requires.middle,
      leaf_count-is_quotient 65536 more (omega arith) c.requires.more,
    ) in
    let fits : count-of begun + length all / 64 * 65536 + length last < 2 ^ 58 =
    omega (arith, many, counts, c.requires.middle.whole, c.requires.more.whole, c.requires.fits) in (
      omega arith,
      record {
        whole = omega (arith, many);
        at_boundary = inr ((λ i. counts i % size i) ∙ c.requires.first);
        followed = inr c.requires.last;
        fits = subst (λ l. count-of begun + length all / 64 * l + length last < 2 ^ 58)
            (sym size) fits;
      },
    )

pub returns : goal.returns
returns c =
    let middle : List ℕ = c.args.middle.now in
    let more : List ℕ = c.args.more.now in
    let last : List ℕ = c.args.last.now in
    let begun = c.update.new.self in
    let shared = c.update.ensures.shared ∙ c.new-hasher.ensures.shared in
    let size = ap (λ s. s.leaf_length) shared in
    let first : c.counted-next.result / 65536 ≡ next_leaf_index (held_tree begun) =
    (λ i. c.counted-next.ensures i / sym size i) in
    let whole : All (AreWholeLeaves begun.nodes.leaf_length) (middle ∷ more ∷ []) =
    subst (λ n. All (AreWholeLeaves n) (middle ∷ more ∷ [])) (sym size)
    (search (rules, c.requires.middle, c.requires.more)) in
    let at = c.leaf_count-count.ensures in
    let are = put_mid-is_joined_range_digests (c.counted-next.result / 65536) middle more
    c.args.digests.now
    c.hash_leaves.new.digests c.hash_leaves-2.new.digests c.requires.middle c.requires.more
    c.requires.room c.hash_leaves.ensures.digests
    (c.hash_leaves-2.ensures.digests
    ∙ (λ i. range_digests p (c.counted-next.result / 65536 + at i) false more)) in
    let took = c.update_leaves.ensures.took.ranges (middle ∷ more ∷ []) whole
    ((λ i. put_mid (64 * at i) (length (c.hash_leaves.new.digests
    ++ drop (64 * at i) c.args.digests.now) - 64 * at i) (c.hash_leaves.new.digests
    ++ drop (64 * at i) c.args.digests.now) c.hash_leaves-2.new.digests)
    ∙ are ∙ (λ i. joined_range_digests (sym shared i) (first i) (middle ∷ more ∷ []))) in
    let both : middle ++ (more ++ []) ≡ middle ++ more = ap (λ r. middle ++ r) (append-nil more) in
    c.finalize.ensures ∙ took.future []
    ∙ c.update.ensures.future (((middle ++ (more ++ [])) ++ last) ++ [])
    ∙ c.new-hasher.ensures.root (c.args.first.now ++ (((middle ++ (more ++ [])) ++ last) ++ []))
    ∙ ap (λ m. tree_root 64 p (c.args.first.now ++ m))
    (append-nil ((middle ++ (more ++ [])) ++ last) ∙ ap (λ m. m ++ last) both)
