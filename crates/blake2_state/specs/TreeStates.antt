-- What a plain state of a tree means: the root that it will return, and the bytes that it has
-- absorbed.
use Rattle.std.specs.Prelude.{◌≡◌, ℕ, ◌+◌, ◌*◌, ◌^◌, ◌<◌, ◌≤◌, List, take, replicate}
use Rattle.blake2_state.specs.Blake2b as Node
use Rattle.blake2_state.specs.declared.tree.TreeState.{TreeState}
use Rattle.blake2_tree.specs.NodeViews.{IsFreshLeaf}
use Rattle.blake2_tree.specs.OpenTrees as Open
use Rattle.blake2_tree.specs.OpenTrees.{OpenTree, open_tree}
use Rattle.blake2_tree.specs.TreeRoot.{TreeParameters}

-- What the nodes of the state's tree share. Salt and personalization are at the beginning of their
-- fields.
abbrev pub parameters : TreeState → TreeParameters
parameters t = record {
  salt = take t.salt_length t.salt;
  persona = take t.persona_length t.persona;
  leaf_length = t.leaf_length;
}

-- The open tree that a state holds.
abbrev pub state_tree : TreeState → OpenTree
state_tree t = open_tree Node.meaning Node.meaning (parameters t) t.closed t.root t.leaf

-- The root that the state returns after it absorbs y too.
abbrev pub future : TreeState → List ℕ → List ℕ
future t = Open.future (state_tree t)

-- The number of bytes that the state has absorbed.
abbrev pub count : TreeState → ℕ
count t = Open.count (state_tree t)

-- The new state is the old one after it absorbs x.
abbrev pub HasAbsorbed : TreeState → List ℕ → TreeState → Type 0
HasAbsorbed old x new = Open.HasAbsorbed (state_tree old) x (state_tree new)

-- The state's lengths are those of a tree.
pub record HasTreeLengths (t : TreeState) : Type 0 where
  pub some : 1 ≤ t.leaf_length
  pub most : t.leaf_length < 2 ^ 32
  pub salt : t.salt_length ≤ 16
  pub persona : t.persona_length ≤ 16

-- The state's counts are those of a tree: the open leaf has at most a leaf's bytes, the root has
-- absorbed the digests of the closed leaves, and the bytes and the leaves are fewer than 2^58.
pub record HasTreeCounts (t : TreeState) : Type 0 where
  pub within_a_leaf : Node.meaning.count t.leaf ≤ t.leaf_length
  pub counted : count t < 2 ^ 58
  pub digests_taken : Node.meaning.count t.root ≡ 64 * t.closed
  pub one_more_fits : t.closed + 1 < 2 ^ 58

-- The state returns a root: its two nodes return digests, that of a leaf in 64 bytes, and its
-- lengths and counts are those of a tree.
pub record IsReady (t : TreeState) : Type 0 where
  pub leaf : Node.IsReady t.leaf
  pub root : Node.IsReady t.root
  pub leaf_size : t.leaf.output_size ≡ 64
  pub lengths : HasTreeLengths t
  pub counts : HasTreeCounts t

-- The state returns a root of `size` bytes.
abbrev pub IsReadyFor : ℕ → TreeState → Type 0
IsReadyFor size t = IsReady t × (t.root.output_size ≡ size)

-- The open leaf has just been opened, and has absorbed nothing.
abbrev pub HasEmptyOpenLeaf : TreeState → Type 0
HasEmptyOpenLeaf t = IsFreshLeaf Node.meaning (parameters t) t.closed t.leaf

-- An open leaf that has absorbed nothing is as it was opened. That holds for every state that a
-- constructor has made, and updates preserve it.
abbrev pub HasFreshLeafIfEmpty : TreeState → Type 0
HasFreshLeafIfEmpty t = (Node.meaning.count t.leaf ≡ 0) → HasEmptyOpenLeaf t

-- The zeroed state, which returns no root.
abbrev pub zeros : TreeState
zeros = record {
  leaf = Node.zeros;
  root = Node.zeros;
  closed = 0;
  leaf_length = 0;
  salt_length = 0;
  persona_length = 0;
  salt = replicate 16 0;
  persona = replicate 16 0;
}
