use Rattle.std.proofs.Common.{◌++◌, [], List, ℕ, ap, codes, subst, ◌∙◌}
use Rattle.b2sum_commands.specs.Messages.{line}
use Rattle.b2sum_commands.specs.World.{SinkAcceptsOrFails}
use Rattle.b2sum_commands.proofs.messages.warn_of_usage.Goals as goal

pub returns-clause-said : goal.returns-clause-said
returns-clause-said g c =
    let first = line c.args.program.now.name.items c.args.text.now [] [] in
    subst (SinkAcceptsOrFails _ _ _ _) (c.as_slice-2.ensures.value
    ∙ c.in_ok-extend_from_slice.ensures.items
    ∙ ap (λ (l : List ℕ). l ++ c.as_slice.result.now) c.in_ok-lines.ensures
    ∙ ap (λ (l : List ℕ). first ++ l) (c.as_slice.ensures.value ∙ c.in_ok-joined.ensures
    ∙ ap (λ (n : List ℕ). codes "Try '" ++ (n ++ codes " --help' for more information.\n"))
    c.as_slice-name.ensures.value)) c.print_message.ensures
