-- The digests of a range of leaves, joined some at a time.
use Rattle.std.proofs.Common.{◌≡◌, ℕ, ◌+◌, ◌-◌, ◌*◌, ◌/◌, ◌<◌, ◌≤◌, Bool, false, List, ◌++◌, length}
use Rattle.std.proofs.Common.{take, drop, sym, ap, ◌∙◌, append_assoc, append-nil, arith}
use Rattle.std.proofs.lemmas.List.{take_all}
use Rattle.std.proofs.Math.Bool.{and-true}
use Rattle.std.proofs.Math.Nat.{div-lt_iff_lt-mul}
use Rattle.blake2.specs.Family.{blake2b}
use Rattle.blake2.specs.Hash.{digest}
use Rattle.blake2_tree.specs.TreeRoot.{TreeParameters, leaf_count, node}
use Rattle.blake2_tree.specs.LeafRanges.{range_digests}
use Rattle.blake2_tree.proofs.RangeLaws.{range_digests-split_after_k_leaves}

-- At most a leaf's bytes are one leaf.
leaf_count-one_if_short : (size n : ℕ) → 0 < size → n ≤ size → leaf_count size n ≡ 1
leaf_count-one_if_short size n some short =
    let below : (n + (size - 1)) / size < 2 =
    (div-lt_iff_lt-mul {k = size} {x = n + (size - 1)} {y = 2} some).1 (omega arith) in
    omega (arith, below)

-- Their digest is that of the leaf, which is the message's last or not.
pub range_digests-single_leaf : (s : TreeParameters) (first : ℕ) (ends : Bool) (bytes : List ℕ)
    → 0 < s.leaf_length → length bytes ≤ s.leaf_length
    → range_digests s first ends bytes ≡ digest blake2b 64 (node s first 0 ends bytes)
unfolding range_digests
range_digests-single_leaf s first ends bytes some short =
    let one : leaf_count s.leaf_length (length bytes) ≡ 1 =
    leaf_count-one_if_short s.leaf_length (length bytes) some short in
    let at : first + 0 ≡ first = omega arith in
    let start : 0 * s.leaf_length ≡ 0 = omega arith in
    rw (one, at, start, take_all s.leaf_length bytes short, and-true ends)
    (append-nil (digest blake2b 64 (node s first 0 ends bytes)))

-- The digests of the next k leaves, which are m bytes and which more follow, are joined to those of
-- the leaves before them.
pub range_digests-split_after_leaves : (s : TreeParameters) (first k m : ℕ) (ends : Bool)
    (rest digests next all : List ℕ) → 0 < s.leaf_length → 1 ≤ k → m ≡ k * s.leaf_length
    → m < length rest → next ≡ range_digests s first false (take m rest)
    → digests ++ range_digests s first ends rest ≡ all
    → (digests ++ next) ++ range_digests s (first + k) ends (drop m rest) ≡ all
range_digests-split_after_leaves s first k m ends rest digests next all some one size more are
    before =
    let behind : List ℕ = range_digests s (first + k) ends (drop m rest) in
    let split : range_digests s first ends rest
    ≡ range_digests s first false (take m rest) ++ behind =
    range_digests-split_after_k_leaves s first k ends rest some one (omega (arith, size))
    ∙ (λ i. range_digests s first false (take (sym size i) rest)
    ++ range_digests s (first + k) ends (drop (sym size i) rest)) in
    append_assoc digests next behind
    ∙ ap (λ d. digests ++ d) (ap (λ d. d ++ behind) are ∙ sym split)
    ∙ before
