-- How the values of the modules `params`, `words` and `inputs` are seen as those of the
-- definitions.
use Rattle.std.specs.Prelude.{ℕ, List, Option, Some, None}
use Rattle.std.specs.Borrow.{Bor}
use Rattle.blake2_compress.specs.declared.params.Parameters as GivenParameters
use Rattle.blake2_compress.specs.declared.params.Tree as GivenTree
use Rattle.blake2_compress.specs.declared.compress.Flags as GivenFlags
use Rattle.blake2_compress.specs.declared.inputs.Input as GivenInput
use Rattle.blake2_compress.specs.Hash.{flags, Flags, Input, Parameters, Tree}

-- The tree parameters that a value of the code holds.
abbrev pub tree_of : GivenTree.Tree → Tree
tree_of t = record {
  fanout = t.fanout;
  depth = t.depth;
  leaf_length = t.leaf_length;
  node_offset = t.node_offset;
  node_depth = t.node_depth;
  inner_length = t.inner_length;
}

-- The parameters that a value of the code holds.
abbrev pub given_parameters : GivenParameters.Parameters → Parameters
given_parameters p = record {
  size = p.output_size;
  key_size = p.key_size;
  salt = p.salt.now;
  persona = p.persona.now;
  tree = tree_of p.tree;
}

-- The flags that a value of the code holds.
abbrev pub given_flags : GivenFlags.Flags → Flags
given_flags f = flags f.last f.last_node

-- The bytes that a key refers to, if there is a key.
abbrev pub key_of : Option (Bor (List ℕ)) → Option (List ℕ)
key_of None = None
key_of (Some key) = Some key.now

-- The input that a value of the code holds.
abbrev pub input_of : GivenInput.Input → Input
input_of a = record {
  salt = a.salt.now;
  persona = a.persona.now;
  key = key_of a.key;
  tree = tree_of a.tree;
  last_node = a.last_node;
  message = a.message.now;
}
