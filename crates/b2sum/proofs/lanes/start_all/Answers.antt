use Rattle.std.proofs.Common.{◌≡◌, ◌<◌, ◌≤◌, ◌+◌, ◌∙◌, ℕ, List, [], Bor, length, arith, below_more, map, refl}
use Rattle.std.proofs.Common.{slice_index_or, slice_set, subst, sym, inl, inr, ap}
use Rattle.std.proofs.lemmas.List.{get_or-map, get_or-set_other, get_or-set_same, length-map, length-set}
use Rattle.b2sum.specs.declared.lanes.Lane.{Lane}
use Rattle.b2sum.specs.LaneStates.{StateIsAtOffset, LaneIsInText}
use Rattle.b2sum.proofs.lanes.start_all.Goals as goal

pub returns-then-not-start-clause-refused : goal.returns-then-not-start-clause-refused
returns-then-not-start-clause-refused g c is =
    let texts = c.args.texts.now in
    let lt : c.loop-j.j < length texts = omega (arith, c.loop-j-test.true, c.requires.few.1) in
    let text = get_or-map {Y = List ℕ} (λ (t : Bor (List ℕ)). t.now) texts c.loop-j.j
    (record { ref_ptr = (0, 0); now = [] }) [] lt in
    elim (c.if-not-start.ensures.refused refl) [
      | inl refused ↦ inl refused
      | inr full ↦ inr (
        c.loop-j.j,
        lt,
        subst (λ (t : List ℕ). g.H.Absorb.limit
            ≤ g.H.HashState.key_count c.args.given.now + length t) (sym text) full,
      )
    ]

pub loop-j-preserved : goal.loop-j-preserved
loop-j-preserved g c =
    let texts = c.args.texts.now in
    let j : ℕ = c.loop-j.j in
    let before = c.loop-j.invariant in
    let lanes : List Lane = c.loop-j.lanes in
    let states = c.loop-j.states in
    let lt : j < length texts = omega (arith, c.loop-j-test.true, c.requires.few.1) in
    let low : j < 8 = omega (arith, c.loop-j-test.true, c.requires.few.0) in
    let bytes : Bor (List ℕ) → List ℕ = λ t. t.now in
    let text = get_or-map {Y = List ℕ} bytes texts j (record { ref_ptr = (0, 0); now = [] }) [] lt in
    let lane : Lane = record { text = j; at = 0 } in
    let state = c.start.new.state in
    let At : ℕ → List ℕ → g.row.H.Denot
    → Type 0 = StateIsAtOffset g.H.Absorb.IsReady g.H.Absorb.size
    g.H.Absorb.count g.H.Absorb.limit g.H.Absorb.future c.args.given.now.output_size
    (g.H.HashState.digest c.args.given.now) in
    let In : Lane → g.row.H.Denot → Type 0 =
    λ l. At l.at (slice_index_or (map bytes texts) l.text []) in
    let new : List Lane = slice_set lanes j lane in
    let here = λ (x : Lane). get_or-set_same lanes j lane x (omega (arith, before.lanes, low)) in
    let there = λ (k : ℕ) (x : Lane) (lt : k < j).
    get_or-set_other lanes j k lane x (λ e. absurd (omega (arith, e, lt))) in
    record {
      number = length-set states j state ∙ before.number;
      lanes = length-set lanes j lane ∙ before.lanes;
      most = λ _. c.if-not-start.ensures.most refl;
      texts = λ k x lt. below_more (λ k. (x : Lane) → (slice_index_or new k x).text ≡ k) j
          (λ k low x. ap (λ (l : Lane). l.text) (there k x low) ∙ before.texts k x low)
          (λ x. ap (λ (l : Lane). l.text) (here x)) k lt x;
      within = λ k x lt. below_more
          (λ k. (x : Lane) → LaneIsInText (map bytes texts) (slice_index_or new k x)) j
          (λ k low x. subst (LaneIsInText (map bytes texts)) (sym (there k x low))
          (before.within k x low))
          (λ x. subst (LaneIsInText (map bytes texts)) (sym (here x))
          (omega (arith, length-map texts bytes, lt), omega arith)) k lt x;
      states = λ k x s lt. below_more (λ k. (x : Lane) (s : g.row.H.Denot)
          → In (slice_index_or new k x) (slice_index_or (slice_set states j state) k s)) j
          (λ k low x s. subst (λ l. In l (slice_index_or (slice_set states j state) k s))
          (sym (there k x low)) (subst (In (slice_index_or lanes k x))
          (sym (get_or-set_other states j k state s (λ e. absurd (omega (arith, e, low)))))
          (before.states k x s low)))
          (λ x s. subst (λ l. In l (slice_index_or (slice_set states j state) j s))
          (sym (here x)) (subst (In lane)
          (sym (get_or-set_same states j state s (omega (arith, before.number, low))))
          (subst (λ (t : List ℕ). At 0 t state) (sym text) (c.if-not-start.ensures.started refl)))) k lt x s;
    }
