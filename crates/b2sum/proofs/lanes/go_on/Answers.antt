use Rattle.std.proofs.Common.{◌≡◌, ◌<◌, ◌+◌, ◌++◌, ◌∙◌, ℕ, List, [], Bor, length, ap, arith, drop, take, map}
use Rattle.std.proofs.Common.{slice_index_or, subst, sym}
use Rattle.std.proofs.lemmas.List.{get_or-take, length-take, take-map, take_at}
use Rattle.blake2_state.specs.SeveralStates.{input_bytes_at}
use Rattle.blake2_state.specs.declared.many.Text.{Text}
use Rattle.b2sum.specs.declared.lanes.Lane.{Lane}
use Rattle.b2sum.specs.LaneStates.{StateIsAtOffset, StateAbsorbs, next_piece_of_lane}
use Rattle.b2sum.proofs.LaneStates.{state_at_offset-after_absorbing}
use Rattle.b2sum.proofs.lanes.go_on.Goals as goal

-- The piece of one of the first n states.
piece_at-of_first_states : (pieces : List Text) (n j : ℕ) → j < n
    → input_bytes_at (take n pieces) j ≡ input_bytes_at pieces j
piece_at-of_first_states pieces n j lt =
    let bytes : Text → List ℕ = λ t. t.bytes.now in
    ap (λ (l : List (List ℕ)). slice_index_or l j []) (sym (take-map bytes n pieces))
    ∙ get_or-take n (map bytes pieces) j [] lt

pub update_several-requires-clause-can : goal.update_several-requires-clause-can
update_several-requires-clause-can g c j s lt =
    let n : ℕ = c.args.count in
    let states = c.args.states.now in
    let low : j < n = omega (arith, lt, length-take n states) in
    let none : Lane = record { text = 0; at = 0 } in
    let lane : Lane = slice_index_or c.args.lanes.now j none in
    let text : List ℕ =
    slice_index_or (map {A = Bor (List ℕ)} {B = List ℕ} (λ t. t.now) c.args.texts.now) lane.text [] in
    let is = c.requires.states j none s low in
    let same = get_or-take n states j s low in
    let piece = piece_at-of_first_states c.pieces_of-pieces.result n j low
    ∙ c.pieces_of-pieces.ensures.pieces j none low in (
      subst g.H.Absorb.IsReady (sym same) is.ready,
      omega (
        arith,
        ap g.H.Absorb.count same,
        ap length piece,
        is.has_room,
        length-take c.args.most (drop lane.at text),
      ),
    )

pub returns-clause-states : goal.returns-clause-states
returns-clause-states g c j l s lt =
    let n : ℕ = c.args.count in
    let states = c.args.states.now in
    let new = c.update_several.new.states in
    let rest = drop n states in
    let texts = map {A = Bor (List ℕ)} {B = List ℕ} (λ t. t.now) c.args.texts.now in
    let lane : Lane = slice_index_or c.args.lanes.now j l in
    let text : List ℕ = slice_index_or texts lane.text [] in
    let long : length new ≡ n = omega (
      arith,
      c.update_several.ensures.number,
      length-take n states,
      c.requires.few,
      c.requires.number.0,
    ) in
    let old = slice_index_or states j s in
    let next = slice_index_or new j s in
    let place = sym (get_or-take n (new ++ rest) j s lt)
    ∙ ap (λ (m : List g.row.H.Denot). slice_index_or m j s) (take_at new rest n long) in
    let Goes : g.row.H.Denot → List ℕ → g.row.H.Denot → Type 0 =
    StateAbsorbs g.H.Absorb.IsReady g.H.Absorb.size g.H.Absorb.count g.H.Absorb.future in
    let takes = c.update_several.ensures.absorbed j s
    (omega (arith, lt, length-take n states, c.requires.few, c.requires.number.0)) in
    let piece = piece_at-of_first_states c.pieces_of-pieces.result n j lt
    ∙ c.pieces_of-pieces.ensures.pieces j l lt in
    let Is : ℕ → List ℕ → g.row.H.Denot
    → Type 0 = StateIsAtOffset g.H.Absorb.IsReady g.H.Absorb.size
    g.H.Absorb.count g.H.Absorb.limit g.H.Absorb.future c.args.given.now.output_size
    (g.H.HashState.digest c.args.given.now) in
    subst (λ (x : Lane). Is x.at (slice_index_or texts x.text []) (slice_index_or (new ++ rest) j s))
    (sym (c.move_on.ensures j l lt))
    (subst (Is (lane.at + length (next_piece_of_lane texts c.args.most lane)) text)
    (sym place) (state_at_offset-after_absorbing g.H.Absorb.IsReady g.H.Absorb.size g.H.Absorb.count
    g.H.Absorb.limit g.H.Absorb.future c.args.given.now.output_size
    (g.H.HashState.digest c.args.given.now) lane.at c.args.most text old next
    (c.requires.within j l lt).1 (c.requires.states j l s lt)
    (subst (λ (p : List ℕ). Goes old p next) piece
    (subst (λ o. Goes o (input_bytes_at (take n c.pieces_of-pieces.result) j) next)
    (get_or-take n states j s lt) takes))))
