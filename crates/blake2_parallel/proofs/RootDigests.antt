-- The digests of a root, from what its leaves hold.
use Rattle.std.proofs.Common.{◌≡◌, ℕ, ◌+◌, ◌-◌, nat_eq, List, [], ◌++◌, take, true, sym, ap, ◌∙◌}
use Rattle.std.proofs.Common.{arith, append-nil}
use Rattle.std.specs.List.{flat_map, range_with_len}
use Rattle.blake2_simd.specs.Family.{Family}
use Rattle.blake2_compress.specs.Hash.{start}
use Rattle.blake2_parallel.specs.Parallel.{Settings, leaf_output, leaves, parallel_node_parameters}
use Rattle.blake2_parallel.specs.Parallel.{node_output_from, parallel_digest}
use Rattle.blake2_parallel.specs.LeafStates.{Leaves, HasAbsorbed, leaf_future, root_digest_after}
use Rattle.blake2_parallel.proofs.DealtStripes.{flat_map-range_same_if_each_same}
use Rattle.blake2_parallel.proofs.LeafStarts.{AtStart}
use Rattle.blake2_parallel.proofs.LeafSteps.{leaf_future-is_leaf_output_over}
use Rattle.blake2_parallel.proofs.LeafSteps.{HasAbsorbed-input_becomes_pending}

-- The digest of a hasher whose leaves took x.
pub root_digest_after-absorbed_input : (f : Family) (n : ℕ) (root : List ℕ) (old new : Leaves)
    (x y : List ℕ)
    → HasAbsorbed f old x new → root_digest_after f n root new y
    ≡ root_digest_after f n root old (x ++ y)
root_digest_after-absorbed_input f n root old new x y took =
    ap (λ (z : List ℕ). take n (node_output_from f root 0 z true))
    (flat_map-range_same_if_each_same (leaf_future f new y) (leaf_future f old (x ++ y)) 0
    (leaves f) (leaves f)
    (omega arith) (λ j lane. took.future y j lane))

-- The digest of a hasher with the same root and leaves.
pub root_digest_after-same_leaves : (f : Family) (n : ℕ) (root : List ℕ) (old new : Leaves)
    (y : List ℕ)
    → ((j : ℕ) → new.words j ≡ old.words j) → new.count ≡ old.count → new.pending ≡ old.pending
    → root_digest_after f n root new y ≡ root_digest_after f n root old y
root_digest_after-same_leaves f n root old new y words count pending =
    root_digest_after-absorbed_input f n root old new [] y
    (HasAbsorbed-input_becomes_pending f old new [] words count
    (pending ∙ sym (append-nil old.pending)))

-- The digests of a hasher at its start are those of the definition.
pub root_digest_after-start : (f : Family) (a : Settings) (root : List ℕ) (s : Leaves) (y : List ℕ)
    → root ≡ start f (parallel_node_parameters f a 0 1) → AtStart f a s
    → root_digest_after f a.size root s y ≡ parallel_digest f a y
unfolding parallel_digest
root_digest_after-start f a root s y is begun =
    (λ i. take a.size (node_output_from f (is i) 0
    (flat_map (leaf_future f s y) (range_with_len 0 (leaves f))) true))
    ∙ ap (λ (z : List ℕ). take a.size (node_output_from f
    (start f (parallel_node_parameters f a 0 1)) 0 z true))
    (flat_map-range_same_if_each_same (leaf_future f s y) (leaf_output f a y) 0 (leaves f)
    (leaves f)
    (omega arith)
    (λ j lane. leaf_future-is_leaf_output_over f s y j
    ∙ (λ i. node_output_from f (begun.words j lane i) (begun.count i) (begun.pending y j lane i)
    (nat_eq (j + 1) (leaves f)))))
