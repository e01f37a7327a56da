use Rattle.std.proofs.Common.{◌≡◌, Bool, false, ◌++◌, Result, Ok, Err, arith, subst}
use Rattle.std.proofs.KnownBytes.{Appends-trans}
use Rattle.std.proofs.lemmas.Grind.{common_steps}
use Rattle.std.specs.Prelude.{◌↔◌, IsErr, IsTrue, OnOk}
use Rattle.std.specs.Io.KnownBytes.{Appends}
use Rattle.b2_commands.specs.Advice.{help_hint}
use Rattle.b2_commands.proofs.help.print_advice.Goals as goal

-- A write that has not failed returned Ok.
ok_claim-if_not_failed : {A B P : Type 0} (result : Result A B) (failed : Bool)
    → (IsErr result ↔ IsTrue failed) → failed ≡ false → OnOk result P → P
ok_claim-if_not_failed (Ok _) failed fails unfailed holds = holds
ok_claim-if_not_failed (Err _) failed fails unfailed holds = grind (arith, common_steps)

pub returns : goal.returns
returns g c unfailed =
    let told = c.write_whole-2.ensures in
    subst (λ text. Appends (g.N.Sink.held c.args.notes.now) (g.N.Sink.held c.write_whole-2.new.sink)
    (text ++ help_hint)) c.usage_for.ensures
    (Appends-trans _ _ _ _ _ c.in-Ok.ensures.whole
    (ok_claim-if_not_failed c.write_whole-2.result _ told.fails unfailed told.whole))
