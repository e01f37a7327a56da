use Rattle.std.proofs.Common.{◌++◌, rules, take}
use Rattle.std.proofs.KnownBytes.{Consumes-trans}
use Rattle.b2_commands.proofs.FilledBuffers.{HasAbsorbed-trans}
use Rattle.b2_commands.proofs.tree.absorb_source.Goals as goal

pub pieces-preserved : goal.pieces-preserved
pieces-preserved g c =
    let before = c.pieces.invariant in
    let piece = take c.in_ok-filled.filled c.fill.new.buffer in
    record {
      unfailed = search rules;
      size = search rules;
      taken = (
        before.taken.0 ++ piece,
        Consumes-trans _ _ _ before.taken.0 piece before.taken.1 c.in_ok-filled.ensures.bytes,
        HasAbsorbed-trans c.args.hasher.now c.pieces.hasher c.update.new.self before.taken.0 piece
            before.taken.2 c.update.ensures,
      );
    }
