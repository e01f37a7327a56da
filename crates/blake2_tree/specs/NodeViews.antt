-- The nodes of a tree, as the code has them.
use Rattle.std.specs.Prelude.{◌≡◌, ℕ, ◌+◌, Bool, false, List, [], ◌∷◌}
use Rattle.blake2_digest.specs.States.{Meaning}
use Rattle.blake2_simd.specs.Family.{blake2b}
use Rattle.blake2_compress.specs.Hash.{digest}
use Rattle.blake2_tree.specs.declared.nodes.Nodes.{Nodes}
use Rattle.blake2_tree.specs.TreeRoot.{TreeParameters, leaf, node}

-- What the nodes of a tree share: the salt, the personalization and the leaf length.
abbrev pub shared_parameters : Nodes → TreeParameters
shared_parameters n = record { salt = n.salt; persona = n.persona; leaf_length = n.leaf_length }

-- The digest of a node, as a function of its flag and its bytes.
abbrev pub node_digest : ℕ → TreeParameters → ℕ → ℕ → Bool → List ℕ → List ℕ
node_digest size p offset depth last bytes = digest blake2b size (node p offset depth last bytes)

-- The leaf at this index has just been opened, and has absorbed nothing.
pub record IsFreshLeaf {S : Type 0} (m : Meaning S) (p : TreeParameters) (place : ℕ) (leaf : S)
    : Type 0 where
  pub digests : (last : Bool) (z : List ℕ)
      → m.future leaf last z ≡ node_digest 64 p place 0 last z
  pub empty : m.count leaf ≡ 0

-- The digests of four whole leaves from index `first` on, which are the first four in `text`. The
-- flag says whether the fourth is the last leaf of the tree.
abbrev pub digests_of_four_leaves : TreeParameters → ℕ → Bool → List ℕ → List (List ℕ)
digests_of_four_leaves p first last text =
    node_digest 64 p first 0 false (leaf p.leaf_length text 0)
    ∷ node_digest 64 p (first + 1) 0 false (leaf p.leaf_length text 1)
    ∷ node_digest 64 p (first + 2) 0 false (leaf p.leaf_length text 2)
    ∷ node_digest 64 p (first + 3) 0 last (leaf p.leaf_length text 3)
    ∷ []
