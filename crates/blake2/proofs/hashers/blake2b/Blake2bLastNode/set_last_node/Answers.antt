use Rattle.std.proofs.Common.{refl}
use Rattle.blake2_simd.specs.Family.{blake2b}
use Rattle.blake2.specs.Hashers.{blake2b_state}
use Rattle.blake2.proofs.StateLaws.{states-equal_by_parts, NodeSet_by}
use Rattle.blake2.proofs.hashers.blake2b.Blake2bLastNode.set_last_node.Goals as goal

pub returns : goal.returns
returns g c =
    NodeSet_by blake2b g.row.N blake2b_state c.args.self.now c.args.on _
    (states-equal_by_parts c.set_last_node.ensures.core c.set_last_node.ensures.pending refl)
