-- What a tree hasher means: the root that it will return, and the bytes that it has absorbed.
use Rattle.std.specs.Prelude.{ℕ, List}
use Rattle.blake2.specs.Hashers.{blake2b_meaning}
use Rattle.blake2_tree.specs.declared.hasher.TreeHasher.{TreeHasher}
use Rattle.blake2_tree.specs.NodeViews.{shared_parameters}
use Rattle.blake2_tree.specs.OpenTrees as Open
use Rattle.blake2_tree.specs.OpenTrees.{OpenTree, open_tree}

-- The open tree that a hasher holds.
abbrev pub held_tree : {n : ℕ} → TreeHasher n → OpenTree
held_tree {n} t =
    open_tree (blake2b_meaning n) (blake2b_meaning 64) (shared_parameters t.nodes) t.closed t.root
    t.leaf

-- The root of n bytes that the hasher returns after it absorbs y too.
abbrev pub future : {n : ℕ} → TreeHasher n → List ℕ → List ℕ
future t = Open.future (held_tree t)

-- The number of bytes that the hasher has absorbed.
abbrev pub count : {n : ℕ} → TreeHasher n → ℕ
count t = Open.count (held_tree t)

-- The new hasher is the old one after it absorbs x.
abbrev pub HasAbsorbed : {n : ℕ} → TreeHasher n → List ℕ → TreeHasher n → Type 0
HasAbsorbed old x new = Open.HasAbsorbed (held_tree old) x (held_tree new)
