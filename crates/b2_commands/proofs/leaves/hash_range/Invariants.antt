use Rattle.std.proofs.Common.{◌≡◌, ◌+◌, ◌*◌, ◌++◌, length}
use Rattle.blake2_tree.specs.LeafRanges.{range_digests}
use Rattle.blake2_tree.specs.NodeViews.{shared_parameters}
use Rattle.b2_commands.proofs.leaves.hash_range.Given as goal

abbrev pub invariant-hashing : goal.invariant-hashing
invariant-hashing l = record {
  place : l.first * l.part.leaf_length + length l.rest
      ≡ l.part.first * l.part.leaf_length + length l.bytes;
  joined : l.digests.items ++ range_digests (shared_parameters l.nodes) l.first l.part.ends l.rest
      ≡ range_digests (shared_parameters l.nodes) l.part.first l.part.ends l.bytes;
}

abbrev pub decreases-hashing : goal.decreases-hashing
decreases-hashing l = length l.rest
