use Rattle.std.proofs.Common.{◌≡◌, ℕ, ◌+◌, ◌*◌, ◌<◌, ◌++◌, List, length, drop, take, Bool}
use Rattle.std.proofs.Common.{refl, sym, ap, ◌∙◌, rules, arith}
use Rattle.std.proofs.lemmas.List.{length-take-le}
use Rattle.blake2_tree.specs.LeafRanges.{range_digests}
use Rattle.blake2_tree.specs.NodeViews.{shared_parameters}
use Rattle.blake2_tree.proofs.RangeLaws.{range_digests-split_after_k_leaves}
use Rattle.blake2_tree.proofs.RangeWrites.{FirstDigestsAreWritten-more_leaves}
use Rattle.blake2_tree.proofs.RangeWrites.{leaf_count-more_than_k, leaf_index-fits_64_bits}
use Rattle.blake2_tree.proofs.nodes.Nodes.write_digests.Goals as goal

pub hash_next-count-requires-clause-place : goal.hash_next-count-requires-clause-place
hash_next-count-requires-clause-place c =
    omega (
      arith,
      leaf_index-fits_64_bits c.args.self.now.some_length c.loop-rest.invariant
          c.requires.range.fits,
    )

pub write_at-requires : goal.write_at-requires
write_at-requires c =
    let l : ℕ = c.args.self.now.leaf_length in
    let rest : List ℕ = c.loop-rest.rest.now in
    let k : ℕ = c.hash_next-count.result in
    let more : k * l < length rest = c.hash_next-count.ensures.more in
    omega (
      arith,
      c.hash_next-count.ensures.most,
      length-take-le (64 * k) c.hash_next-count.new.digests (omega arith),
      c.loop-rest.invariant.room,
      leaf_count-more_than_k l k (length rest) c.args.self.now.some_length more,
    )

pub loop-rest-preserved : goal.loop-rest-preserved
loop-rest-preserved c =
    let nodes = c.args.self.now in
    let s = shared_parameters nodes in
    let k : ℕ = c.hash_next-count.result in
    let m : ℕ = k * nodes.leaf_length in
    let place : ℕ = c.args.first + c.loop-rest.done in
    let ends : Bool = c.args.ends in
    let rest : List ℕ = c.loop-rest.rest.now in
    let digests : List ℕ = c.hash_next-count.new.digests in
    let next = c.hash_next-count.ensures in
    let all : length digests ≡ 512 = search rules in
    FirstDigestsAreWritten-more_leaves k m _ (take (64 * k) digests) nodes.some_length refl
    next.more (search rules)
    (length-take-le (64 * k) digests (omega (arith, all, next.most))) c.write_at.ensures
    (range_digests-split_after_k_leaves s place k ends rest nodes.some_length next.some next.more
    ∙ ap (λ r. r ++ range_digests s (place + k) ends (drop m rest)) (sym next.digests))
    c.loop-rest.invariant

pub write_last-requires-clause-place : goal.write_last-requires-clause-place
write_last-requires-clause-place c =
    omega (
      arith,
      leaf_index-fits_64_bits c.args.self.now.some_length c.loop-rest.invariant
          c.requires.range.fits,
    )
