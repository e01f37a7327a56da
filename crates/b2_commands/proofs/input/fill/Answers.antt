use Rattle.std.proofs.Common.{◌≡◌, ◌-◌, ◌∙◌, false, ◌||◌, ap, arith, length, rules, take}
use Rattle.std.proofs.KnownBytes.{Consumes-trans}
use Rattle.b2_commands.proofs.FilledBuffers.{take-after_put_mid}
use Rattle.b2_commands.proofs.input.fill.Goals as goal

pub filling-preserved : goal.filling-preserved
filling-preserved g c =
    let before = c.filling.invariant in
    let read = c.in-Ok.ensures in
    let buffer = c.filling.buffer in
    let at = c.filling.at in
    let piece = c.read.new.buf in
    let size : length piece ≡ length buffer - at = search rules in
    record {
      unfailed = read.fails ∙ ap (λ b. b || false) before.unfailed;
      size = search rules;
      within = search rules;
      passed = rw (take-after_put_mid buffer piece at c.in-Ok.count before.within size
          (omega (arith, read.bound.1)))
          (Consumes-trans _ _ _ (take at buffer) (take c.in-Ok.count piece) before.passed
          read.bytes.0);
    }
