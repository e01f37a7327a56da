use Rattle.std.proofs.Common.{◌≡◌, ℕ, ◌*◌, ◌/◌, ◌+◌, ◌<◌, length, take, ap, ◌∙◌, rules, arith}
use Rattle.std.proofs.Common.{false, subst}
use Rattle.std.proofs.lemmas.List.{length-take-le}
use Rattle.blake2_tree.specs.LeafRanges.{range_digests}
use Rattle.blake2_tree.proofs.RootsOfCalls.{AreWholeLeaves-take, HasAbsorbedPrefix-k_leaves}
use Rattle.blake2_state.specs.TreeStates.{count, parameters}
use Rattle.blake2_state.proofs.tree.TreeState.close_next.Goals as goal

pub returns-clause-went_on : goal.returns-clause-went_on
returns-clause-went_on c =
    let old = c.args.self.now in
    let l : ℕ = old.leaf_length in
    let some = c.requires.ready.lengths.some in
    let k : ℕ = c.hash_next-count.result in
    let next = c.hash_next-count.ensures in
    let given = c.close_given.ensures in
    let all : length c.hash_next-count.new.digests ≡ 512 = search rules in
    let size : length (take (64 * k) c.hash_next-count.new.digests) ≡ 64 * k =
    length-take-le (64 * k) c.hash_next-count.new.digests (omega (arith, all, next.most)) in
    let closed : length (take (64 * k) c.hash_next-count.new.digests) / 64 ≡ k =
    omega (arith, size) in
    let digests : take (64 * k) c.hash_next-count.new.digests
    ≡ range_digests (parameters old) old.closed false (take (k * l) c.args.input.now) =
    next.digests
    ∙ ap (λ p. range_digests p old.closed false (take (k * p.leaf_length) c.args.input.now))
    c.nodes-nodes.ensures in
    let same : c.nodes-nodes.result.leaf_length ≡ l =
    ap (λ p. p.leaf_length) c.nodes-nodes.ensures in
    let follow : k * l < length c.args.input.now =
    subst (λ n. k * n < length c.args.input.now) same next.more in
    HasAbsorbedPrefix-k_leaves k some next.some follow c.requires.begun.empty given.begun.empty
    given.shared
    (given.count ∙ ap (λ (n : ℕ). count old + n * l) closed)
    (λ y more. given.future c.requires.begun _ y
    (AreWholeLeaves-take l k c.args.input.now some next.some
    follow) more digests)
