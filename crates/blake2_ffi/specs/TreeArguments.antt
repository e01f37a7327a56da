-- The arguments of the exports on trees.
use Rattle.blake2_compress.specs.Hash.{Tree}
use Rattle.blake2_ffi.specs.declared.NodeParameters.{NodeParameters}

-- The tree parameters with these numbers (the BLAKE2 document, 2.8).
abbrev pub tree_of_node_parameters : NodeParameters → Tree
tree_of_node_parameters given = record {
  fanout = given.fanout;
  depth = given.depth;
  leaf_length = given.leaf_length;
  node_offset = given.node_offset;
  node_depth = given.node_depth;
  inner_length = given.inner_length;
}
