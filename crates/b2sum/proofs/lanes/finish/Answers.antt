use Rattle.std.proofs.Common.{◌≡◌, ◌∙◌, ℕ, List, [], Bor, ap, arith, drop, map, take}
use Rattle.std.proofs.Common.{slice_index_or, subst}
use Rattle.std.proofs.lemmas.List.{get_or_default, length-drop, length-map, length-take}
use Rattle.b2sum.specs.declared.lanes.Lane.{Lane}
use Rattle.b2sum.specs.LaneStates.{StateIsAtOffset, DigestIsWritten}
use Rattle.b2sum.proofs.LaneStates.{digest_written-at_text_end}
use Rattle.b2sum.proofs.lanes.finish.Goals as goal

pub bytes_left-most-requires : goal.bytes_left-most-requires
bytes_left-most-requires g c = omega (
  arith,
  (c.requires.within c.args.lane (record { text = 0; at = 0 }) c.requires.few.1).0,
  length-map c.args.texts.now (λ (t : Bor (List ℕ)). t.now),
)

pub put_digest-requires-clause-ready : goal.put_digest-requires-clause-ready
put_digest-requires-clause-ready g c = (c.go_on.ensures.states c.args.lane (record { text = 0; at = 0 })
    c.index-states-lane.result c.requires.few.1).ready

pub put_digest-requires-clause-size : goal.put_digest-requires-clause-size
put_digest-requires-clause-size g c = omega (
  arith,
  (c.go_on.ensures.states c.args.lane (record { text = 0; at = 0 }) c.index-states-lane.result
      c.requires.few.1).has_size,
  c.requires.most,
)

pub put_digest-requires-clause-place : goal.put_digest-requires-clause-place
put_digest-requires-clause-place g c = omega (
  arith,
  (c.go_on.ensures.within c.args.lane (record { text = 0; at = 0 }) c.requires.few.1).0,
  length-map c.args.texts.now (λ (t : Bor (List ℕ)). t.now),
  c.requires.out,
)

pub returns-clause-done : goal.returns-clause-done
returns-clause-done g c l =
    let texts : List (List ℕ) = map {A = Bor (List ℕ)} {B = List ℕ} (λ t. t.now) c.args.texts.now in
    let none : Lane = record { text = 0; at = 0 } in
    let lane : ℕ = c.args.lane in
    let old : Lane = slice_index_or c.args.lanes.now lane none in
    let text : List ℕ = slice_index_or texts old.text [] in
    let s = slice_index_or c.go_on.new.states lane c.index-states-lane.result in
    let digest = g.H.HashState.digest c.args.given.now in
    let n : ℕ = c.args.given.now.output_size in
    let At : ℕ → List ℕ → g.row.H.Denot
    → Type 0 = StateIsAtOffset g.H.Absorb.IsReady g.H.Absorb.size
    g.H.Absorb.count g.H.Absorb.limit g.H.Absorb.future n digest in
    let moved = c.go_on.ensures.lanes lane none c.requires.few.1 in
    let is = subst (λ (x : Lane). At x.at (slice_index_or texts x.text []) s) moved
    (c.go_on.ensures.states lane none c.index-states-lane.result c.requires.few.1) in
    let out = c.put_digest.new.out in
    let here : take (g.H.Absorb.size s) (slice_index_or out old.text []) ≡ g.H.Absorb.future s [] =
    subst (λ (x : Lane). take (g.H.Absorb.size s) (slice_index_or out x.text [])
    ≡ g.H.Absorb.future s []) moved c.put_digest.ensures.here in
    let done = digest_written-at_text_end g.H.Absorb.IsReady g.H.Absorb.size g.H.Absorb.count
    g.H.Absorb.limit
    g.H.Absorb.future n digest _ text (slice_index_or out old.text []) s is (omega (
      arith,
      c.bytes_left-most.ensures,
      length-take c.bytes_left-most.result (drop old.at text),
      length-drop old.at text,
      (c.requires.within lane none c.requires.few.1).1,
    )) here in
    subst (λ (x : Lane). DigestIsWritten digest n (slice_index_or texts x.text [])
    (slice_index_or out x.text []))
    (get_or_default c.args.lanes.now lane none l
    (omega (arith, c.requires.few.0, c.requires.few.1, c.requires.number.1))) done

pub returns-clause-others : goal.returns-clause-others
returns-clause-others g c t l other =
    let none : Lane = record { text = 0; at = 0 } in
    let lane : ℕ = c.args.lane in
    c.put_digest.ensures.others t (λ e. other (e
    ∙ ap (λ (x : Lane). x.text) (c.go_on.ensures.lanes lane none c.requires.few.1)
    ∙ ap (λ (x : Lane). x.text) (get_or_default c.args.lanes.now lane none l
    (omega (arith, c.requires.few.0, c.requires.few.1, c.requires.number.1)))))
