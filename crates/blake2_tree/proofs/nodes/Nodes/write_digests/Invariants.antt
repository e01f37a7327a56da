use Rattle.std.proofs.Common.{length}
use Rattle.blake2_tree.specs.NodeViews.{shared_parameters}
use Rattle.blake2_tree.proofs.RangeWrites.{FirstDigestsAreWritten}
use Rattle.blake2_tree.proofs.nodes.Nodes.write_digests.Given as goal

abbrev pub invariant-loop-rest : goal.invariant-loop-rest
invariant-loop-rest l =
    FirstDigestsAreWritten (shared_parameters l.self) l.first l.ends l.bytes l.done l.out l.rest

abbrev pub decreases-loop-rest : goal.decreases-loop-rest
decreases-loop-rest l = length l.rest
