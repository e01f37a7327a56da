-- The nodes of a tree as inputs.
use Rattle.std.proofs.Common.{◌≡◌, ◌≢◌, ◌↔◌, ℕ, ◌+◌, ◌*◌, ◌^◌, ◌<◌, ◌≤◌, Bool, List, length, refl}
use Rattle.std.proofs.Common.{sym, ap, ◌∙◌, arith}
use Rattle.std.proofs.Math.Nat.{eq_of_mul-eq-mul_right}
use Rattle.std.specs.List.{flat_map, range_with_len}
use Rattle.blake2_simd.specs.Family.{blake2b}
use Rattle.blake2_compress.specs.Hash.{AreBytes, key_block, digest}
use Rattle.blake2_compress.specs.Inputs.{Accepts}
use Rattle.blake2_compress.proofs.RunSizes.{length-digest}
use Rattle.blake2_transcript.specs.Witness.{Collide}
use Rattle.blake2_compress.specs.MessagePieces.{IsFirstDifference}
use Rattle.blake2_tree.specs.TreeRoot.{TreeParameters, leaf_count, leaf, node, leaf_input}
use Rattle.blake2_tree.specs.TreeRoot.{leaf_digests, root_input_over_digests, root_input, tree_root}
use Rattle.blake2_tree.specs.TreeWitnesses.{RootsCollide}
use Rattle.blake2_tree.proofs.JoinedRanges.{length-flat_map-range, flat_map-range_is_injective}

-- ---- what BLAKE2b accepts

-- What the nodes share is within the limits of BLAKE2b.
pub record AreWithinBlake2bLimits (s : TreeParameters) : Type 0 where
  pub salt_fits : length s.salt ≤ 16
  pub persona_fits : length s.persona ≤ 16
  pub salt_is : AreBytes s.salt
  pub persona_is : AreBytes s.persona
  pub leaf_length : s.leaf_length < 2 ^ 32

-- BLAKE2b accepts each node.
pub Accepts-node : (s : TreeParameters) (offset depth : ℕ) (last : Bool) (bytes : List ℕ)
    → AreWithinBlake2bLimits s → offset < 2 ^ 64 → depth < 256
    → length bytes < 2 ^ 64 → AreBytes bytes → Accepts blake2b (node s offset depth last bytes)
unfolding key_block
Accepts-node s offset depth last bytes taken offset_fits depth_fits counted bytes_are = record {
  salt_fits = taken.salt_fits;
  persona_fits = taken.persona_fits;
  key_fits = tt;
  counted = counted;
  tree = record {
    fanout = omega arith;
    depth_given = omega arith;
    depth = omega arith;
    leaf_length = taken.leaf_length;
    node_offset = offset_fits;
    node_depth =
        depth_fits;
    inner_length = omega arith;
  };
  salt_bytes = taken.salt_is;
  persona_bytes = taken.persona_is;
  message_bytes = bytes_are;
}

-- ---- the digests of the leaves

-- The digest of leaf i.
abbrev pub leaf_digest : TreeParameters → List ℕ → ℕ → List ℕ
leaf_digest s message i = digest blake2b 64 (leaf_input s message i)

-- The digests of the first n leaves, joined.
abbrev pub digests_of_first_leaves : TreeParameters → List ℕ → ℕ → List ℕ
digests_of_first_leaves s message n = flat_map (leaf_digest s message) (range_with_len 0 n)

pub digests_of_first_leaves-all : (s : TreeParameters) (message : List ℕ)
    → digests_of_first_leaves s message (leaf_count s.leaf_length (length message))
    ≡ leaf_digests s message
unfolding leaf_digests
digests_of_first_leaves-all s message = refl

length-leaf_digest : (s : TreeParameters) (message : List ℕ) (i : ℕ)
    → length (leaf_digest s message i) ≡ 64
length-leaf_digest s message i = length-digest blake2b 64 (leaf_input s message i) (omega arith)

pub length-leaf_digests : (s : TreeParameters) (message : List ℕ)
    → length (leaf_digests s message) ≡ leaf_count s.leaf_length (length message) * 64
length-leaf_digests s message =
    ap length (sym (digests_of_first_leaves-all s message))
    ∙ length-flat_map-range (leaf_digest s message) 64 (length-leaf_digest s message) 0
    (leaf_count s.leaf_length (length message))

-- Messages whose leaves have the same digests have the same number of leaves.
pub leaf_count-same_if_digests_same : (s : TreeParameters) (a b : List ℕ)
    → leaf_digests s a ≡ leaf_digests s b
    → leaf_count s.leaf_length (length a) ≡ leaf_count s.leaf_length (length b)
leaf_count-same_if_digests_same s a b same =
    eq_of_mul-eq-mul_right 64 (omega arith) (leaf_count s.leaf_length (length a))
    (leaf_count s.leaf_length (length b))
    (sym (length-leaf_digests s a) ∙ ap length same ∙ length-leaf_digests s b)

-- Each leaf of one message has the digest of the other's.
pub leaf_digest-same_if_digests_same : (s : TreeParameters) (a b : List ℕ) (i : ℕ)
    → leaf_digests s a ≡ leaf_digests s b → i < leaf_count s.leaf_length (length a)
    → leaf_digest s a i ≡ leaf_digest s b i
leaf_digest-same_if_digests_same s a b i same below =
    let n = leaf_count s.leaf_length (length a) in
    let joined : digests_of_first_leaves s a n ≡ digests_of_first_leaves s b n =
    digests_of_first_leaves-all s a ∙ same ∙ sym (digests_of_first_leaves-all s b)
    ∙ ap (digests_of_first_leaves s b) (sym (leaf_count-same_if_digests_same s a b same)) in
    let at : 0 + i ≡ i = omega arith in
    rw at at (flat_map-range_is_injective (leaf_digest s a) (leaf_digest s b) 64
    (length-leaf_digest s a)
    (length-leaf_digest s b) 0 n i below joined)

-- ---- two messages with one root

-- If the digests of the leaves differ, the roots collide.
pub RootsCollide-if_leaf_digests_differ : (size : ℕ) (s : TreeParameters) (a b : List ℕ)
    → leaf_digests s a ≢ leaf_digests s b
    → Collide blake2b size (root_input s a) (root_input s b) ↔ RootsCollide size s a b
unfolding tree_root
RootsCollide-if_leaf_digests_differ size s a b differ = (
  (λ c. record { different = λ e. differ (ap (leaf_digests s) e); roots = c.digests }),
  (λ c. record { different = λ same. differ same.message; digests = c.roots }),
)

-- If the digests of the leaves are equal, the first leaves that differ collide.
pub Collide-at_first_different_leaf : (s : TreeParameters) (a b : List ℕ) (i : ℕ)
    → leaf_digests s a ≡ leaf_digests s b
    → IsFirstDifference s.leaf_length a b i
    → Collide blake2b 64 (leaf_input s a i) (leaf_input s b i)
Collide-at_first_different_leaf s a b i same first = record {
  different = λ c. first.differ c.message;
  digests = leaf_digest-same_if_digests_same s a b i same first.within;
}

-- If the digests of the leaves are equal, so are the roots.
pub RootsCollide-if_leaf_digests_same : (size : ℕ) (s : TreeParameters) (a b : List ℕ) (i : ℕ)
    → leaf_digests s a ≡ leaf_digests s b → IsFirstDifference s.leaf_length a b i
    → RootsCollide size s a b
unfolding tree_root
RootsCollide-if_leaf_digests_same size s a b i same first = record {
  different = λ e. first.differ (ap (λ m. leaf s.leaf_length m i) e);
  roots = ap (λ digests. digest blake2b size (root_input_over_digests s digests)) same;
}
