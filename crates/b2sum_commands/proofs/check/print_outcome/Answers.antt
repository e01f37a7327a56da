use Rattle.std.proofs.Common.{◌≡◌, subst, rules}
use Rattle.b2sum_commands.specs.World.{AcceptsNothingOrPart}
use Rattle.b2sum_commands.specs.Manifests.{name_with_outcome}
use Rattle.b2sum_commands.proofs.EndedByErrors.{on_err-if_it_holds}
use Rattle.b2sum_commands.proofs.check.print_outcome.Goals.{
  then-contains+in_ok-extend_from_slice+in_ok-push_escaped,
  else-contains+in_ok-extend_from_slice-2,
}
use Rattle.b2sum_commands.proofs.check.print_outcome.Goals as goal

pub returns-in_err-put-clause-part : goal.returns-in_err-put-clause-part
returns-in_err-put-clause-part g c =
    let text : c.as_slice.result.now ≡ name_with_outcome c.args.name.now c.args.outcome.now =
    elim c.if-contains.branch [
      | then-contains+in_ok-extend_from_slice+in_ok-push_escaped w ↦ search rules
      | else-contains+in_ok-extend_from_slice-2 w ↦ search rules
    ] in
    on_err-if_it_holds _ _
    (subst (AcceptsNothingOrPart (g.K.Sink.held c.args.output.now) (g.K.Sink.held c.put.new.sink))
    text
    c.in_err-put.ensures.part)
