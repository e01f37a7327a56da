use Rattle.std.proofs.Common.{◌∙◌, ap, sym, false, ◌||◌, append_assoc, length-append, arith, take}
use Rattle.std.proofs.Common.{◌++◌}
use Rattle.std.proofs.KnownBytes.{Consumes-trans}
use Rattle.blake2_digest.proofs.Texts.{AreBytes-append}
use Rattle.b2sum.proofs.hashes.absorb_source.Goals as goal

pub reading-preserved : goal.reading-preserved
reading-preserved g c =
    let before = c.reading.invariant.passed in
    let read = c.in-Ok.ensures in
    let piece = take c.in-Ok.count c.read.new.buf in
    let absorbed = c.absorb.ensures in
    record {
      unfailed = read.fails ∙ ap (λ b. b || false) c.reading.invariant.unfailed;
      room = omega (arith, absorbed.count, read.bound.1, c.reading.invariant.room);
      buffer = omega (arith, c.read.auto.buf, c.reading.invariant.buffer);
      name = read.name ∙ c.reading.invariant.name;
      ready = absorbed.ready;
      size = absorbed.size ∙ c.reading.invariant.size;
      passed = (
        before.0 ++ piece,
        AreBytes-append before.0 piece before.1 c.tell_bytes.ensures,
        Consumes-trans _ _ _ before.0 piece before.2 read.bytes.0,
        omega (arith, absorbed.count, before.3, read.bound.1, length-append before.0 piece),
        λ y. absorbed.future y ∙ before.4 (piece ++ y)
            ∙ ap (g.H.Absorb.future _) (sym (append_assoc before.0 piece y)),
      );
    }

pub returns-then-count-room-clause-too_long : goal.returns-then-count-room-clause-too_long
returns-then-count-room-clause-too_long g c = λ _ _.
    let before = c.reading.invariant.passed in
    let read = c.in-Ok.ensures in
    let piece = take c.in-Ok.count c.read.new.buf in (
      before.0 ++ piece,
      Consumes-trans _ _ _ before.0 piece before.2 read.bytes.0,
      omega (
        arith,
        length-append before.0 piece,
        read.bound.1,
        before.3,
        c.reading.invariant.room,
      ),
    )
