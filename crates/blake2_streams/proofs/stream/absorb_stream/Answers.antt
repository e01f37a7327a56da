use Rattle.std.proofs.Common.{◌∙◌, ap, false, ◌||◌, length-append, arith, take, ◌++◌}
use Rattle.std.proofs.KnownBytes.{Consumes-trans}
use Rattle.blake2_digest.proofs.Texts.{AreBytes-append}
use Rattle.blake2_streams.proofs.StreamLemmas.{Updated-trans}
use Rattle.blake2_streams.proofs.stream.absorb_stream.Goals as goal

pub returns-then-count-room-clause-after_too_long :
    goal.returns-then-count-room-clause-after_too_long
returns-then-count-room-clause-after_too_long g c = λ _.
    let before = c.reading.invariant.passed in
    let read = c.in-Ok.ensures in
    let piece = take c.in-Ok.count c.read.new.buf in (
      before.0 ++ piece,
      AreBytes-append before.0 piece before.2 c.tell_bytes.ensures,
      Consumes-trans _ _ _ before.0 piece before.3 read.bytes.0,
      omega (arith, length-append before.0 piece, read.bound.1, before.1, before.4.count),
    )

pub reading-preserved : goal.reading-preserved
reading-preserved g c =
    let before = c.reading.invariant.passed in
    let read = c.in-Ok.ensures in
    let piece = take c.in-Ok.count c.read.new.buf in
    record {
      unfailed = read.fails ∙ ap (λ b. b || false) c.reading.invariant.unfailed;
      room = omega (arith, c.update.ensures.count, read.bound.1);
      passed = (
        before.0 ++ piece,
        omega (arith, length-append before.0 piece, read.bound.1, before.1),
        AreBytes-append before.0 piece before.2 c.tell_bytes.ensures,
        Consumes-trans _ _ _ before.0 piece before.3 read.bytes.0,
        Updated-trans g.H.Update.meaning _ _ _ before.0 piece before.4 c.update.ensures,
      );
    }
