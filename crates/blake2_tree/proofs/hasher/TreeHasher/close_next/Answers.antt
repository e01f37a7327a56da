use Rattle.std.proofs.Common.{◌≡◌, ℕ, ◌*◌, ◌/◌, ◌+◌, length, take, ap, ◌∙◌, rules, arith, false}
use Rattle.std.proofs.lemmas.List.{length-take-le}
use Rattle.blake2_tree.specs.NodeViews.{shared_parameters}
use Rattle.blake2_tree.specs.LeafRanges.{range_digests}
use Rattle.blake2_tree.specs.TreeHashers.{count}
use Rattle.blake2_tree.proofs.RootsOfCalls.{AreWholeLeaves-take, HasAbsorbedPrefix-k_leaves}
use Rattle.blake2_tree.proofs.hasher.TreeHasher.close_next.Goals as goal

pub returns-clause-went_on : goal.returns-clause-went_on
returns-clause-went_on g c =
    let old = c.args.self.now in
    let l : ℕ = old.nodes.leaf_length in
    let k : ℕ = c.hash_next-count.result in
    let next = c.hash_next-count.ensures in
    let given = c.close_given.ensures in
    let all : length c.hash_next-count.new.digests ≡ 512 = search rules in
    let size : length (take (64 * k) c.hash_next-count.new.digests) ≡ 64 * k =
    length-take-le (64 * k) c.hash_next-count.new.digests (omega (arith, all, next.most)) in
    let closed : length (take (64 * k) c.hash_next-count.new.digests) / 64 ≡ k =
    omega (arith, size) in
    let digests : take (64 * k) c.hash_next-count.new.digests
    ≡ range_digests (shared_parameters old.nodes) old.closed false (take (k * l) c.args.input.now) =
    search rules in
    HasAbsorbedPrefix-k_leaves k old.nodes.some_length next.some next.more c.requires.empty
    given.empty
    (ap shared_parameters given.nodes)
    (given.count ∙ ap (λ (n : ℕ). count old + n * l) closed)
    (λ y some. given.future _ y (AreWholeLeaves-take l k c.args.input.now old.nodes.some_length
    next.some next.more) some digests)
