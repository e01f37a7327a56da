use Rattle.std.proofs.Common.{◌≡◌, ◌<◌, set, true, false, Some, inr, refl, sym, ◌∙◌}
use Rattle.std.proofs.Common.{arith, vec_len}
use Rattle.blake2_replay.specs.Play.{Slots}
use Rattle.blake2_replay.specs.SlotStates.{AllHold}
use Rattle.blake2_replay.proofs.CallsOnSlots.{play_call-absent_slot, IsFoundState}
use Rattle.blake2_replay.proofs.CallsOnSlots.{play_call-ended_slot, IsLiveState}
use Rattle.blake2_replay.proofs.CallsOnSlots.{IsLiveState-if_found}
use Rattle.blake2_replay.proofs.LiveCalls.{live_update-plays, long_update-fails, live_clone-plays}
use Rattle.blake2_replay.proofs.LiveCalls.{live_reset-plays, live_finalize-plays}
use Rattle.blake2_replay.proofs.LiveCalls.{live_finalize_reset-plays, answers_by_push}
use Rattle.blake2_replay.proofs.SlotPlaces.{set_back-unchanged}
use Rattle.blake2_replay.proofs.calls.replay_call.Given.{Over}
use Rattle.blake2_replay.proofs.calls.replay_call.Goals as goal
use Rattle.blake2_replay.proofs.calls.replay_call.Goals.{In-Some, In-Some-held}

-- What is at the index of the call's slot.
state_at_slot-is_found : (g : Over) (c : In-Some g) (first : g.row.H.Denot) (slots : Slots)
    → AllHold g.H.Update.meaning first slots c.args.states.now.items
    → IsFoundState g.H.Update.meaning first slots c.args.states.now.items c.slot.result
    c.args.call.now
    c.in-Some.held.now
state_at_slot-is_found g c first slots all = record {
  all = all;
  named = c.slot.ensures;
  within = omega (arith, c.in-Some.ensures.variant.0 refl);
  at_place = c.in-Some.ensures.value;
}

-- The call's slot is present.
slot-is_live : (g : Over) (c : In-Some-held g) (first : g.row.H.Denot) (slots : Slots)
    → AllHold g.H.Update.meaning first slots c.args.states.now.items
    → IsLiveState g.H.Update.meaning first slots c.args.states.now.items c.args.place c.slot.result
    c.args.call.now c.in-Some-held.state
slot-is_live g c first slots all =
    IsLiveState-if_found g.H.Update.meaning first slots c.args.states.now.items c.args.place
    c.slot.result
    c.args.call.now _ c.in-Some-held.state
    (state_at_slot-is_found g (goal.at.In-Some-held g c).In-Some first slots all) c.in-Some-held.is

-- The state of the call's slot is back at its index.
state_is_put_back : (g : Over) (c : In-Some-held g) → set c.args.states.now.items c.slot.result
    (Some c.in-Some-held.state) ≡ c.args.states.now.items
state_is_put_back g c =
    set_back-unchanged c.args.states.now.items c.slot.result c.in-Some.held.now c.in-Some-held.state
    c.in-Some.ensures.value c.in-Some-held.is

pub returns-in_default : goal.returns-in_default
returns-in_default g c = λ first slots all.
    let beyond : ¬ (c.slot.result < vec_len c.args.states.now) = λ within.
    let some : false ≡ true = c.in_default.ensures.variant.1 within in cc in
    inr
    (play_call-absent_slot g.H.Update.meaning first slots c.args.states.now.items c.args.place
    c.slot.result
    c.args.call.now all c.slot.ensures (omega (arith, beyond)))

pub returns-in_default-held : goal.returns-in_default-held
returns-in_default-held g c = λ first slots all.
    let at =
    state_at_slot-is_found g (goal.at.returns-in_default-held g c).In-Some first slots all in
    inr (play_call-ended_slot g.H.Update.meaning first slots _ c.args.place _ _ _ at
    c.in_default-held.is)

pub returns-then-input-counted : goal.returns-then-input-counted
returns-then-input-counted g c = λ first slots all.
    let slot =
    slot-is_live g (goal.at.returns-then-input-counted g c).In-Some-held first slots all in
    inr (long_update-fails slot _ c.counted.result _ c.in-Update.is c.counted.ensures
    c.if-input-counted.true)

pub returns-else-input-counted : goal.returns-else-input-counted
returns-else-input-counted g c = λ first slots all.
    let slot =
    slot-is_live g (goal.at.returns-else-input-counted g c).In-Some-held first slots all in
    live_update-plays slot _ c.counted.result _ c.update.new.self _ c.in-Update.is c.counted.ensures
    c.if-input-counted.false c.counted.type_inv c.update.ensures

pub returns-in-Clone : goal.returns-in-Clone
returns-in-Clone g c = λ first slots all.
    let slot = slot-is_live g (goal.at.returns-in-Clone g c).In-Some-held first slots all in
    let back = state_is_put_back g (goal.at.returns-in-Clone g c).In-Some-held in
    answers_by_push c.push.result _ c.push.ensures.pushed c.push.ensures.refused
    (λ pushed. rw (pushed, back, c.duplicate-copy.ensures)
    (live_clone-plays slot _ _ c.in-Clone.is))

pub returns-in-Reset : goal.returns-in-Reset
returns-in-Reset g c = λ first slots all.
    let slot = slot-is_live g (goal.at.returns-in-Reset g c).In-Some-held first slots all in
    let starts = g.met.H.FixedOutputReset.reset_starts_again in
    live_reset-plays slot _ c.reset.new.self _ c.in-Reset.is
    (starts c.in-Some-held.state c.reset.new.self c.reset.ensures)

pub returns-in-Finalize : goal.returns-in-Finalize
returns-in-Finalize g c = λ first slots all.
    let slot =
    IsLiveState-if_found g.H.Update.meaning first slots c.args.states.now.items c.args.place
    c.slot.result
    c.args.call.now _ c.unwrap-last.result
    (state_at_slot-is_found g (goal.at.returns-in-Finalize g c).In-Some first slots all)
    (c.in-Some-held.is ∙ sym c.take.ensures.value ∙ c.unwrap-last.ensures) in
    answers_by_push c.push-in-Finalize.result _ c.push-in-Finalize.ensures.pushed
    c.push-in-Finalize.ensures.refused
    (λ pushed.
    rw c.take.ensures.after (live_finalize-plays slot _ _ _ _ c.in-Finalize.is
    c.finalize_fixed.ensures pushed))

pub returns-in-FinalizeReset : goal.returns-in-FinalizeReset
returns-in-FinalizeReset g c = λ first slots all.
    let slot = slot-is_live g (goal.at.returns-in-FinalizeReset g c).In-Some-held first slots all in
    let starts = g.met.H.FixedOutputReset.reset_starts_again in
    let was = c.finalize_fixed_reset-digest in
    answers_by_push c.push-in-FinalizeReset.result _ c.push-in-FinalizeReset.ensures.pushed
    c.push-in-FinalizeReset.ensures.refused
    (λ pushed.
    live_finalize_reset-plays slot _ was.new.self _ _ _ c.in-FinalizeReset.is
    (starts c.in-Some-held.state was.new.self was.ensures.reset) was.ensures.output pushed)
