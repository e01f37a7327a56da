use Rattle.std.proofs.Common.{◌≡◌, ℕ, ◌-◌, ◌≤◌, List, length, drop, take, sym, subst, ◌∙◌, arith}
use Rattle.std.proofs.lemmas.List.{length-drop, length-take}
use Rattle.std.proofs.KnownBytes.{Consumes-trans}
use Rattle.std.specs.Io.KnownBytes.{Consumes}
use Rattle.b2sum_commands.proofs.FilesAhead.{put_mid-keeps_length, take-of_put_mid}
use Rattle.b2sum_commands.proofs.ahead.read_to_end.Goals as goal

pub reading-preserved : goal.reading-preserved
reading-preserved g c =
    let before = c.reading.invariant in
    let read = c.in-Ok.ensures in
    let out = c.reading.out in
    let fits : length c.read.new.buf ≡ length out - c.reading.count = omega (
      arith,
      c.read.auto.buf,
      length-take (length out - c.reading.count) (drop c.reading.count out),
      length-drop c.reading.count out,
    ) in
    let within : c.in-Ok.more ≤ length c.read.new.buf =
    omega (arith, read.bound.1, length-take c.in-Ok.more c.read.new.buf) in
    let same = put_mid-keeps_length out c.read.new.buf c.reading.count before.bound fits in
    record {
      bound = omega (arith, same, before.bound, within, fits);
      room = same ∙ before.room;
      given = subst (λ (l : List ℕ). Consumes (g.S.OpenFile.left c.args.source.now)
          (g.S.OpenFile.left c.read.new.self) l)
          (sym (take-of_put_mid c.reading.out c.read.new.buf c.reading.count c.in-Ok.more
          before.bound
          within))
          (Consumes-trans _ _ _ (take c.reading.count c.reading.out)
          (take c.in-Ok.more c.read.new.buf) before.given read.bytes.0);
    }
