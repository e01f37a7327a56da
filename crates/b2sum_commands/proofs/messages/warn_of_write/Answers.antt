use Rattle.std.proofs.Common.{◌≡◌, ◌++◌, ◌∷◌, [], ℕ, List, None, Some, ap, codes, inl, inr, refl}
use Rattle.std.proofs.Common.{subst, ◌∙◌}
use Rattle.b2sum_commands.specs.Messages.{WriteFailed, line}
use Rattle.b2sum_commands.specs.World.{SinkAcceptsOrFails}
use Rattle.b2sum_commands.proofs.messages.warn_of_write.Goals as goal

write_error_line-is_whole : (name : List ℕ)
    → name ++ codes ": write error\n" ≡ line name (codes "write error") [] []
write_error_line-is_whole [] = refl
write_error_line-is_whole (b ∷ name) = ap (λ (text : List ℕ). b ∷ text)
    (write_error_line-is_whole name)

pub returns-in-Ok : goal.returns-in-Ok
returns-in-Ok g c =
    let text = c.in-Ok.ensures in (
      WriteFailed (Some text.0),
      inr (text.0, text.1, refl),
      subst (SinkAcceptsOrFails _ _ _ _) (c.as_slice.ensures.value ∙ text.2)
          c.print_message.ensures,
    )

pub returns-in-Err : goal.returns-in-Err
returns-in-Err g c = (
  WriteFailed None,
  inl refl,
  subst (SinkAcceptsOrFails _ _ _ _) (write_error_line-is_whole c.args.host.now.program.name.items)
      c.tell_named.ensures,
)
