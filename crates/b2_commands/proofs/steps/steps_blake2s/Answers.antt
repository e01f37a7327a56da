-- Made by tools/twins.py from proofs/steps/steps_blake2b/Answers.antt.
use Rattle.std.proofs.Common.{[], refl}
use Rattle.std.proofs.lemmas.Bool.{iff_false}
use Rattle.std.proofs.KnownBytes.{Keeps-refl}
use Rattle.blake2.specs.Family.{blake2s}
use Rattle.blake2.specs.MacArguments.{key_count}
use Rattle.b2_commands.specs.ReadOptions.{given_options}
use Rattle.b2_commands.specs.Tasks.{input_with}
use Rattle.b2_commands.proofs.AcceptedInputs.{accepted_input-is_not_refused}
use Rattle.b2_commands.proofs.AcceptedInputs.{unaccepted_empty_message-is_refused}
use Rattle.b2_commands.proofs.AcceptedInputs.{unaccepted_unrefused-is_too_long}
use Rattle.b2_commands.proofs.AcceptedInputs.{source_too_long-if_message_too_long}
use Rattle.b2_commands.proofs.steps.steps_blake2s.Goals as goal

pub returns-then-not-accepts-clause-length : goal.returns-then-not-accepts-clause-length
returns-then-not-accepts-clause-length g c =
    let not_accepted = iff_false c.accepts.ensures c.if-not-accepts.true in
    let refused = unaccepted_empty_message-is_refused blake2s _
    (input_with (given_options c.args.options.now) []) c.input_under.ensures.input
    c.input_under.ensures.bytes refl refl not_accepted in
    (λ _. refused, λ _. refl)

pub returns-then-not-accepts-2-clause-ends : goal.returns-then-not-accepts-2-clause-ends
returns-then-not-accepts-2-clause-ends g c =
    let given = given_options c.args.options.now in
    let allowed =
    accepted_input-is_not_refused blake2s _ (input_with given []) c.input_under.ensures.input
    (c.accepts.ensures.0 c.if-not-accepts.false) in
    let not_accepted = iff_false c.accepts-2.ensures c.if-not-accepts-2.true in
    let long = unaccepted_unrefused-is_too_long blake2s _ (input_with given c.as_slice.result.now)
    c.input_under-input.ensures.input c.input_under-input.ensures.bytes refl allowed not_accepted
    in (
      source_too_long-if_message_too_long _ c.in_ok-message.message.items
          (key_count blake2s given.key)
          c.in_ok-message.ensures.whole (rw c.as_slice.ensures.value at long),
      Keeps-refl _,
    )
