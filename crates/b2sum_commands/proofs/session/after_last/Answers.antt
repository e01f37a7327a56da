use Rattle.b2sum_commands.proofs.LastTextPart.{slice-is_after_last_byte}
use Rattle.b2sum_commands.proofs.LastTextPart.{slice-is_whole_without_byte}
use Rattle.b2sum_commands.proofs.session.after_last.Goals.{
  then-part-test+else-text-at,
  else-part-test,
}
use Rattle.b2sum_commands.proofs.session.after_last.Goals as goal

pub returns-clause-part : goal.returns-clause-part
returns-clause-part c =
    elim c.part-test.branch [
      | then-part-test+else-text-at w ↦ slice-is_after_last_byte _ _ c.part.at w.part-test.true
          c.part.invariant.0 w.if-text-at.false c.part.invariant.1
      | else-part-test w ↦ slice-is_whole_without_byte _ _ c.part.at w.part-test.false
          c.part.invariant.1
    ]
