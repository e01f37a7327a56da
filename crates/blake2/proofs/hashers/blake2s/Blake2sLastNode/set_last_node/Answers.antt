-- Made by tools/twins.py from proofs/hashers/blake2b/Blake2bLastNode/set_last_node/Answers.antt.
use Rattle.std.proofs.Common.{refl}
use Rattle.blake2_simd.specs.Family.{blake2s}
use Rattle.blake2.specs.Hashers.{blake2s_state}
use Rattle.blake2.proofs.StateLaws.{states-equal_by_parts, NodeSet_by}
use Rattle.blake2.proofs.hashers.blake2s.Blake2sLastNode.set_last_node.Goals as goal

pub returns : goal.returns
returns g c =
    NodeSet_by blake2s g.row.N blake2s_state c.args.self.now c.args.on _
    (states-equal_by_parts c.set_last_node.ensures.core c.set_last_node.ensures.pending refl)
