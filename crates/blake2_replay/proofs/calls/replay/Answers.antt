use Rattle.std.proofs.Common.{◌≡◌, [], ◌∷◌, ◌⊎◌, Some, Err, sym, ◌∙◌, arith}
use Rattle.std.proofs.lemmas.Result.{err_from_is_err_and}
use Rattle.blake2_replay.specs.declared.calls.ReplayFault.TheVariants.{Memory}
use Rattle.blake2_replay.specs.Play.{since_beginning, play}
use Rattle.blake2_replay.proofs.StandsForLaws.{StandsFor-first}
use Rattle.blake2_replay.proofs.OneCallAndTheRest.{after-no_digests, fault-is_memory_if_play_ok}
use Rattle.blake2_replay.proofs.OneCallAndTheRest.{IsPlayedUpTo-next, play_stops}
use Rattle.blake2_replay.proofs.OneCallAndTheRest.{play_ends}
use Rattle.blake2_replay.proofs.FirstBadCall.{fault-names_first_bad}
use Rattle.blake2_replay.proofs.CallsFromTheStart.{play-equals_play_fresh, play_at_start}
use Rattle.blake2_replay.proofs.calls.replay.Given.{Over}
use Rattle.blake2_replay.proofs.calls.replay.Goals as goal
use Rattle.blake2_replay.proofs.calls.replay.Goals.{In_err-replay_call}

pub calls-init : goal.calls-init
calls-init g c =
    let m = g.H.Update.meaning in
    record {
      slots = Some (since_beginning []) ∷ [];
      held = rw (c.in_ok-push.ensures.pushed, c.new-states.ensures.items)
          (StandsFor-first m c.args.first, tt);
      rest =
          rw c.new-digests.ensures.items (after-no_digests (play m c.args.first c.args.calls.now));
    }

pub calls-preserved : goal.calls-preserved
calls-preserved g c =
    let m = g.H.Update.meaning in
    let now = c.calls.invariant in
    let on = c.in_ok-replay_call.ensures c.args.first now.slots now.held in
    record {
      slots = on.outcome.slots;
      held = on.held;
      rest =
          IsPlayedUpTo-next m c.args.first _ c.args.calls.now now.slots on.outcome
          c.calls.digests.items
          c.replay_call.new.digests.items c.calls.place _
          c.calls-test.true now.rest on.played_is on.digests_are;
    }

pub returns-clause-fresh : goal.returns-clause-fresh
returns-clause-fresh g c = λ digest n fresh.
    let m = g.H.Update.meaning in
    let now = c.calls.invariant in
    sym (play-equals_play_fresh m c.args.first digest n fresh c.args.calls.now)
    ∙ play_ends m c.args.first c.args.calls.now now.slots c.calls.digests.items c.calls.place _
    (omega arith) now.rest

pub returns-clause-at_start : goal.returns-clause-at_start
returns-clause-at_start g c = λ digest n start.
    let m = g.H.Update.meaning in
    let now = c.calls.invariant in
    sym (play_at_start m c.args.first digest n start c.args.calls.now)
    ∙ play_ends m c.args.first c.args.calls.now now.slots c.calls.digests.items c.calls.place _
    (omega arith) now.rest

-- The call that was refused ran out of memory, or is the first bad one.
fault-is_memory_or_played : (g : Over) (c : In_err-replay_call g)
    → (c.in_err-replay_call.field-0.0 ≡ Memory)
    ⊎ (play g.H.Update.meaning c.args.first c.args.calls.now ≡ Err c.in_err-replay_call.field-0.0)
fault-is_memory_or_played g c =
    let now = c.calls.invariant in
    play_stops g.H.Update.meaning c.args.first _ c.args.calls.now now.slots c.calls.digests.items
    c.calls.place _ _
    c.calls-test.true now.rest (c.in_err-replay_call.ensures c.args.first now.slots now.held)

pub returns-in_err-replay_call-clause-fault : goal.returns-in_err-replay_call-clause-fault
returns-in_err-replay_call-clause-fault g c =
    let given = err_from_is_err_and c.from_residual-in_err-replay_call.result
    c.from_residual-in_err-replay_call.ensures.1 in
    rw (given.1, given.2) (fault-is_memory_or_played g
    (goal.at.returns-in_err-replay_call-clause-fault g
    c).In_err-replay_call)

pub returns-in_err-replay_call-clause-fresh_fault :
    goal.returns-in_err-replay_call-clause-fresh_fault
returns-in_err-replay_call-clause-fresh_fault g c =
    let given = err_from_is_err_and c.from_residual-in_err-replay_call.result
    c.from_residual-in_err-replay_call.ensures.1 in
    let stop = fault-is_memory_or_played g (goal.at.returns-in_err-replay_call-clause-fresh_fault g
    c).In_err-replay_call in
    rw (given.1, given.2) (λ digest n fresh.
    rw (← play-equals_play_fresh g.H.Update.meaning c.args.first digest n fresh c.args.calls.now)
    stop)

pub returns-in_err-replay_call-clause-at_start_fault :
    goal.returns-in_err-replay_call-clause-at_start_fault
returns-in_err-replay_call-clause-at_start_fault g c =
    let given = err_from_is_err_and c.from_residual-in_err-replay_call.result
    c.from_residual-in_err-replay_call.ensures.1 in
    let stop =
    fault-is_memory_or_played g (goal.at.returns-in_err-replay_call-clause-at_start_fault g
    c).In_err-replay_call in
    rw (given.1, given.2) (λ digest n start.
    rw (← play_at_start g.H.Update.meaning c.args.first digest n start c.args.calls.now) stop)

pub returns-in_err-replay_call-clause-place : goal.returns-in_err-replay_call-clause-place
returns-in_err-replay_call-clause-place g c =
    let given = err_from_is_err_and c.from_residual-in_err-replay_call.result
    c.from_residual-in_err-replay_call.ensures.1 in
    let stop =
    fault-is_memory_or_played g
    (goal.at.returns-in_err-replay_call-clause-place g c).In_err-replay_call in
    rw (given.1, given.2) (fault-names_first_bad g.H.Update.meaning c.args.first c.args.calls.now _
    stop)

pub returns-in_err-replay_call-clause-no_bad_call :
    goal.returns-in_err-replay_call-clause-no_bad_call
returns-in_err-replay_call-clause-no_bad_call g c = λ good.
    let given = err_from_is_err_and c.from_residual-in_err-replay_call.result
    c.from_residual-in_err-replay_call.ensures.1 in
    let stop = fault-is_memory_or_played g (goal.at.returns-in_err-replay_call-clause-no_bad_call g
    c).In_err-replay_call in
    rw (given.1, given.2) (fault-is_memory_if_play_ok
    (play g.H.Update.meaning c.args.first c.args.calls.now) _
    stop good)
