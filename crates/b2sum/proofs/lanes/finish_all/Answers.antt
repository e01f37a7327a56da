use Rattle.std.proofs.Common.{◌≡◌, ◌≤◌, ◌+◌, ◌∙◌, ℕ, List, Bor, arith, inl, inr, length, map}
use Rattle.std.proofs.lemmas.Bool.{cases_lt}
use Rattle.b2sum.specs.declared.lanes.Lane.{Lane}
use Rattle.b2sum.proofs.LaneStates.{texts_done_or_in_lanes-after_finish}
use Rattle.b2sum.proofs.lanes.finish_all.Goals as goal

pub loop-lane-preserved : goal.loop-lane-preserved
loop-lane-preserved g c =
    let before = c.loop-lane.invariant in
    let done = c.finish.ensures in
    let none : Lane = record { text = 0; at = 0 } in
    let lane : ℕ = c.loop-lane.lane in
    let later : (j : ℕ) → lane ≤ j → (j ≡ lane → ⊥) → lane + 1 ≤ j = λ j le other.
    elim (cases_lt lane j) [
      | inl lt ↦ omega (arith, lt)
      | inr ge ↦ absurd (other (omega (arith, le, ge)))
    ] in
    record {
      number = c.finish.auto.states ∙ before.number;
      lanes = c.finish.auto.lanes ∙ before.lanes;
      out = c.finish.auto.out ∙ before.out;
      within = done.within;
      states = done.states;
      begun = texts_done_or_in_lanes-after_finish (g.H.HashState.digest c.args.given.now)
          c.args.given.now.output_size
          (map {A = Bor (List ℕ)} {B = List ℕ} (λ t. t.now) c.args.texts.now) c.loop-lane.out
          c.finish.new.out c.loop-lane.lanes c.finish.new.lanes lane c.args.count (lane + 1)
          (length c.args.texts.now) lane none
          (omega (arith, before.lanes, c.loop-lane-test.true, c.requires.few)) before.begun
          (done.done none) (λ t. done.others t none)
          (λ j x le lt other. (later j le other, done.texts j x lt));
    }

pub returns : goal.returns
returns g c t lt = elim (c.loop-lane.invariant.begun t lt) [
  | inl is ↦ is
  | inr is ↦ absurd (omega (arith, is.2, is.3, c.loop-lane-test.false))
]
