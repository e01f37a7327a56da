use Rattle.std.proofs.Common.{◌≡◌, ◌<◌, ◌∙◌, ℕ, length, List, Bor, ap, arith, below_more, map, slice_index_or, slice_set}
use Rattle.std.proofs.lemmas.List.{get_or_default, get_or-set_other, get_or-set_same, length-set}
use Rattle.b2sum.specs.declared.lanes.Lane.{Lane}
use Rattle.b2sum.specs.LaneStates.{lane_after_piece}
use Rattle.b2sum.proofs.lanes.move_on.Goals as goal

pub loop-j-preserved : goal.loop-j-preserved
loop-j-preserved c =
    let old : List Lane = c.loop-j.lanes in
    let j : ℕ = c.loop-j.j in
    let none : Lane = record { text = 0; at = 0 } in
    let lane : Lane = record { text = (slice_index_or old j none).text; at = c.end_of.result } in
    let before = c.loop-j.invariant in
    let After : Lane → Lane =
    lane_after_piece (map {A = Bor (List ℕ)} {B = List ℕ} (λ t. t.now) c.args.texts.now) c.args.most
    in
    let long : j < length old = omega (arith, before.number, c.loop-j-test.true, c.requires.few) in
    record {
      number = length-set old j lane ∙ before.number;
      moved = λ k x lt. below_more
          (λ k. (x : Lane) → slice_index_or (slice_set old j lane) k x
          ≡ After (slice_index_or c.args.lanes.now k x)) j
          (λ k low x. get_or-set_other old j k lane x (λ e. absurd (omega (arith, e, low)))
          ∙ before.moved k x low)
          (λ x. get_or-set_same old j lane x long
          ∙ ap (λ (a : ℕ). record { text = (slice_index_or old j none).text; at = a }) c.end_of.ensures
          ∙ ap After (get_or_default old j none x long ∙ before.others j x (omega arith))) k lt x;
      others = λ k x le. get_or-set_other old j k lane x (λ e. absurd (omega (arith, e, le)))
          ∙ before.others k x (omega (arith, le));
    }
