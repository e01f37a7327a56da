use Rattle.std.proofs.Common.{◌≡◌, ◌<◌, ◌≤◌, ◌+◌, ◌∙◌, ◌⊎◌, ℕ, List, [], Bor, ap, arith, below_more, inl, inr}
use Rattle.std.proofs.Common.{length, map, refl, slice_index_or, slice_set, subst, sym}
use Rattle.std.proofs.lemmas.List.{get_or-map, get_or-set_other, get_or-set_same, length-map, length-set}
use Rattle.b2sum.specs.declared.lanes.Lane.{Lane}
use Rattle.b2sum.specs.LaneStates.{StateIsAtOffset, DigestIsWritten, LaneIsInText}
use Rattle.b2sum.proofs.LaneStates.{texts_done_or_in_lanes-after_finish, equal_or_not_equal}
use Rattle.b2sum.proofs.lanes.digest_several.Goals as goal

pub loop-next-init : goal.loop-next-init
loop-next-init g c =
    let started = c.if-not-start_all.ensures in
    let none : Lane = record { text = 0; at = 0 } in
    record {
      number = c.start_all.auto.states ∙ c.requires.states;
      lanes = c.start_all.auto.lanes;
      out = c.requires.number;
      within = started.within refl;
      states = started.states refl;
      begun = λ t lt. inr (t, none, omega arith, lt, started.texts refl t none lt);
    }

pub shortest-lane-requires-clause-texts : goal.shortest-lane-requires-clause-texts
shortest-lane-requires-clause-texts g c j l lt = omega (
  arith,
  (c.loop-next.invariant.within j l lt).0,
  length-map c.args.texts.now (λ (t : Bor (List ℕ)). t.now),
)

pub returns-then-not-start-clause-refused : goal.returns-then-not-start-clause-refused
returns-then-not-start-clause-refused g c is =
    let texts = c.args.texts.now in
    let next : ℕ = c.loop-next.next in
    let text = get_or-map {Y = List ℕ} (λ (t : Bor (List ℕ)). t.now) texts next
    (record { ref_ptr = (0, 0); now = [] }) [] c.loop-next-test.true in
    elim (c.if-not-start.ensures.refused refl) [
      | inl refused ↦ inl refused
      | inr full ↦ inr (
        next,
        c.loop-next-test.true,
        subst (λ (t : List ℕ). g.H.Absorb.limit
            ≤ g.H.HashState.key_count c.args.given.now + length t) (sym text) full,
      )
    ]

pub loop-next-preserved : goal.loop-next-preserved
loop-next-preserved g c =
    let before = c.loop-next.invariant in
    let done = c.finish.ensures in
    let none : Lane = record { text = 0; at = 0 } in
    let lane : ℕ = c.shortest-lane.result in
    let next : ℕ = c.loop-next.next in
    let count : ℕ = c.min-count.result in
    let bytes : Bor (List ℕ) → List ℕ = λ t. t.now in
    let texts : List (List ℕ) = map bytes c.args.texts.now in
    let lanes : List Lane = c.finish.new.lanes in
    let states = c.finish.new.states in
    let state = c.start.new.state in
    let here : Lane = record { text = next; at = 0 } in
    let digest = g.H.HashState.digest c.args.given.now in
    let n : ℕ = c.args.given.now.output_size in
    let few : lane < 8 = omega (arith, c.shortest-lane.ensures, c.min-count.ensures) in
    let long : lane < length lanes = omega (arith, few, c.finish.auto.lanes, before.lanes) in
    let deep : lane < length states = omega (arith, few, c.finish.auto.states, before.number) in
    let set = λ (x : Lane). get_or-set_same lanes lane here x long in
    let kept = λ (k : ℕ) (x : Lane) (other : k ≡ lane → ⊥).
    get_or-set_other lanes lane k here x (λ e. other (omega (arith, e))) in
    let At : ℕ → List ℕ → g.row.H.Denot
    → Type 0 = StateIsAtOffset g.H.Absorb.IsReady g.H.Absorb.size
    g.H.Absorb.count g.H.Absorb.limit g.H.Absorb.future n digest in
    let In : Lane → g.row.H.Denot → Type 0 = λ l. At l.at (slice_index_or texts l.text []) in
    let text = get_or-map {Y = List ℕ} bytes c.args.texts.now next
    (record { ref_ptr = (0, 0); now = [] }) [] c.loop-next-test.true in
    let started = subst (λ (t : List ℕ). At 0 t state) (sym text) (c.if-not-start.ensures.started refl) in
    let after : List Lane = slice_set lanes lane here in
    let Begun : ℕ
    → Type 0 = λ t. DigestIsWritten digest n (slice_index_or texts t [])
    (slice_index_or c.finish.new.out t [])
    ⊎ ((j : ℕ) × (l : Lane) × (0 ≤ j) × (j < count) × ((slice_index_or after j l).text ≡ t)) in
    let begun = texts_done_or_in_lanes-after_finish digest n texts c.loop-next.out c.finish.new.out
    c.loop-next.lanes after 0 count 0
    next lane none (omega (arith, few, before.lanes)) before.begun (done.done none) (λ t. done.others t none)
    (λ j x le lt other. (omega arith, ap (λ (l : Lane). l.text) (kept j x other) ∙ done.texts j x lt)) in
    record {
      number = length-set states lane state ∙ c.finish.auto.states ∙ before.number;
      lanes = length-set lanes lane here ∙ c.finish.auto.lanes ∙ before.lanes;
      out = c.finish.auto.out ∙ before.out;
      within = λ k x lt. elim (equal_or_not_equal k lane) [
        | inl same ↦ subst (λ (i : ℕ). LaneIsInText texts (slice_index_or after i x)) (sym same)
            (subst (LaneIsInText texts) (sym (set x))
            (omega (arith, length-map c.args.texts.now bytes, c.loop-next-test.true), omega arith))
        | inr other ↦ subst (LaneIsInText texts) (sym (kept k x other)) (done.within k x lt)
      ];
      states = λ k x s lt. elim (equal_or_not_equal k lane) [
        | inl same ↦ subst (λ (i : ℕ). In (slice_index_or after i x)
            (slice_index_or (slice_set states lane state) i s)) (sym same)
            (subst (λ l. In l (slice_index_or (slice_set states lane state) lane s)) (sym (set x))
            (subst (In here) (sym (get_or-set_same states lane state s deep)) started))
        | inr other ↦ subst (λ l. In l (slice_index_or (slice_set states lane state) k s))
            (sym (kept k x other)) (subst (In (slice_index_or lanes k x))
            (sym (get_or-set_other states lane k state s (λ e. other (omega (arith, e)))))
            (done.states k x s lt))
      ];
      begun = λ t lt. below_more Begun next (λ t low. begun t low)
          (inr (lane, none, omega arith, c.shortest-lane.ensures, ap (λ (l : Lane). l.text) (set none))) t lt;
    }
