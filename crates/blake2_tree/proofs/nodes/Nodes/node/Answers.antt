use Rattle.std.proofs.Common.{ap, arith}
use Rattle.blake2_compress.specs.Hash.{AreBytes, Tree}
use Rattle.blake2_tree.specs.NodeViews.{shared_parameters}
use Rattle.blake2_tree.proofs.NodeLemmas.{AreWithinBlake2bLimits, Accepts-node}
use Rattle.blake2_tree.proofs.nodes.Nodes.node.Goals as goal

pub returns-clause-accepted : goal.returns-clause-accepted
returns-clause-accepted c =
    let salt = c.as_slice.ensures in
    let persona = c.as_slice-2.ensures in
    let p = shared_parameters c.args.self.now in
    let taken : AreWithinBlake2bLimits p = record {
      salt_fits = salt.short;
      persona_fits = persona.short;
      salt_is = salt.are;
      persona_is = persona.are;
      leaf_length = omega (arith, ap (λ (t : Tree). t.leaf_length) c.place.ensures);
    } in
    let bytes : AreBytes c.args.bytes.now = λ i. omega (arith, c.type_inv.bytes i) in
    rw (salt.bytes, persona.bytes, c.place.ensures)
    (Accepts-node p c.args.node_offset c.args.node_depth c.args.last_node c.args.bytes.now taken
    (omega arith) (omega arith) (omega arith) bytes)
