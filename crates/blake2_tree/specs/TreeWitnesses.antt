-- What two different messages with one root lead to.
use Rattle.std.specs.Prelude.{◌≡◌, ◌≢◌, ℕ, List}
use Rattle.blake2_simd.specs.Family.{blake2b}
use Rattle.blake2_compress.specs.Hash.{Step}
use Rattle.blake2_compress.specs.MessagePieces.{IsFirstDifference}
use Rattle.blake2_transcript.specs.StepViews.{step_of}
use Rattle.blake2_transcript.specs.Witness.{IsWitness}
use Rattle.blake2_tree.specs.declared.witness.TreeWitness.{TreeWitness}
use Rattle.blake2_tree.specs.declared.witness.TreeWitness.TheVariants.{Root, Leaf}
use Rattle.blake2_tree.specs.TreeRoot.{TreeParameters, leaf_input, leaf_digests, root_input}
use Rattle.blake2_tree.specs.TreeRoot.{tree_root}

-- Two different messages have the same root.
pub record RootsCollide (size : ℕ) (p : TreeParameters) (a b : List ℕ) : Type 0 where
  pub different : a ≢ b
  pub roots : tree_root size p a ≡ tree_root size p b

-- The digests of the leaves differ, and x and y are a witness of the two roots.
pub record IsRootWitness (size : ℕ) (p : TreeParameters) (a b : List ℕ) (x y : Step) : Type 0 where
  pub digests : leaf_digests p a ≢ leaf_digests p b
  pub pair : IsWitness blake2b (root_input p a) (root_input p b) size x y

-- The digests of the leaves are equal, leaf i is the first that differs, and x and y are a witness
-- of the two leaves at that index.
pub record IsLeafWitness (p : TreeParameters) (a b : List ℕ) (i : ℕ) (x y : Step) : Type 0 where
  pub digests : leaf_digests p a ≡ leaf_digests p b
  pub first : IsFirstDifference p.leaf_length a b i
  pub pair : IsWitness blake2b (leaf_input p a i) (leaf_input p b i) 64 x y

-- What a witness says of two messages.
abbrev pub IsTreeWitness : ℕ → TreeParameters → List ℕ → List ℕ → TreeWitness → Type 0
IsTreeWitness size p a b (Root x y) = IsRootWitness size p a b (step_of x) (step_of y)
IsTreeWitness size p a b (Leaf i x y) = IsLeafWitness p a b i (step_of x) (step_of y)
