use Rattle.std.proofs.Common.{◌≡◌, ◌≢◌, ◌<◌, length, rules, arith, IsSome}
use Rattle.blake2_compress.specs.Views.{input_of}
use Rattle.blake2_tree.specs.TreeRoot.{leaf_count, leaf_digests, leaf_input, root_input}
use Rattle.blake2_tree.specs.TreeRoot.{tree_parameters}
use Rattle.blake2_tree.proofs.NodeLemmas.{leaf_count-same_if_digests_same}
use Rattle.blake2_tree.proofs.NodeLemmas.{RootsCollide-if_leaf_digests_differ}
use Rattle.blake2_tree.proofs.NodeLemmas.{Collide-at_first_different_leaf}
use Rattle.blake2_tree.proofs.NodeLemmas.{RootsCollide-if_leaf_digests_same}
use Rattle.blake2_tree.proofs.witness.tree_witness.Goals as goal

pub returns-then-ne-clause-some : goal.returns-then-ne-clause-some
returns-then-ne-clause-some c =
    let s = tree_parameters c.args.salt.now c.args.persona.now c.args.leaf_length in
    let differ : leaf_digests s c.args.a.now ≢ leaf_digests s c.args.b.now = search rules in
    let root_a : input_of c.root-root_a.result ≡ root_input s c.args.a.now = search rules in
    let root_b : input_of c.root-root_b.result ≡ root_input s c.args.b.now = search rules in
    let collide = rw (root_a, root_b) at c.in_ok-pair.ensures.some in
    let roots = RootsCollide-if_leaf_digests_differ c.args.output_size s c.args.a.now c.args.b.now
    differ in
    let some_of : IsSome c.map.result → IsSome c.in_ok-pair.pair = search rules in
    let some_from : IsSome c.in_ok-pair.pair → IsSome c.map.result = search rules in
    ((λ some. roots.0 (collide.0 (some_of some))), (λ both. some_from (collide.1 (roots.1 both))))

pub first_difference-requires-clause-equally_many :
    goal.first_difference-requires-clause-equally_many
first_difference-requires-clause-equally_many c =
    let s = tree_parameters c.args.salt.now c.args.persona.now c.args.leaf_length in
    let same : leaf_digests s c.args.a.now ≡ leaf_digests s c.args.b.now = search rules in
    leaf_count-same_if_digests_same s c.args.a.now c.args.b.now same

pub leaf-leaf_b-requires : goal.leaf-leaf_b-requires
leaf-leaf_b-requires c =
    let s = tree_parameters c.args.salt.now c.args.persona.now c.args.leaf_length in
    let same : leaf_digests s c.args.a.now ≡ leaf_digests s c.args.b.now = search rules in
    let within : c.in-Some.i < leaf_count c.args.leaf_length (length c.args.b.now) =
    omega (
      arith,
      leaf_count-same_if_digests_same s c.args.a.now c.args.b.now same,
      c.in-Some.ensures.within,
    ) in
    search rules

pub returns-clause-some : goal.returns-clause-some
returns-clause-some c =
    let s = tree_parameters c.args.salt.now c.args.persona.now c.args.leaf_length in
    let same : leaf_digests s c.args.a.now ≡ leaf_digests s c.args.b.now = search rules in
    let leaf_a : input_of c.leaf-leaf_a.result ≡ leaf_input s c.args.a.now c.in-Some.i =
    search rules in
    let leaf_b : input_of c.leaf-leaf_b.result ≡ leaf_input s c.args.b.now c.in-Some.i =
    search rules in
    let collide = rw (leaf_a, leaf_b) at c.in_ok-pair-2.ensures.some in
    let some_from : IsSome c.in_ok-pair-2.pair → IsSome c.map-2.result = search rules in (
      (λ _. RootsCollide-if_leaf_digests_same c.args.output_size s c.args.a.now c.args.b.now
          c.in-Some.i same
          c.in-Some.ensures),
      (λ _. some_from (collide.1 (Collide-at_first_different_leaf s c.args.a.now c.args.b.now
          c.in-Some.i same
          c.in-Some.ensures))),
    )
