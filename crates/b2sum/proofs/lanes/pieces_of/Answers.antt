use Rattle.std.proofs.Common.{◌≡◌, ℕ, List, [], ap, arith, map, slice_index_or, slice_set}
use Rattle.std.proofs.Common.{Bor, below_more, ◌∙◌}
use Rattle.std.proofs.lemmas.List.{get_or_default, get_or-set_other, get_or-set_same, length-map, length-set, map-set}
use Rattle.blake2_state.specs.SeveralStates.{input_bytes_at}
use Rattle.blake2_state.specs.declared.many.Text.{Text}
use Rattle.b2sum.specs.declared.lanes.Lane.{Lane}
use Rattle.b2sum.specs.LaneStates.{next_piece_of_lane}
use Rattle.b2sum.proofs.lanes.pieces_of.Goals as goal

pub loop-j-preserved : goal.loop-j-preserved
loop-j-preserved c =
    let pieces : List Text = c.loop-j.pieces in
    let lanes : List Lane = c.args.lanes.now in
    let j : ℕ = c.loop-j.j in
    let bytes : Text → List ℕ = λ t. t.bytes.now in
    let piece : Text = record { bytes = c.piece_of.result } in
    let new = slice_set pieces j piece in
    let set = map-set bytes pieces j piece in
    let After : Lane → List ℕ = next_piece_of_lane (map {A = Bor (List ℕ)} {B = List ℕ} (λ t. t.now) c.args.texts.now) c.args.most in
    let Is : ℕ → Type 0 = λ k. (x : Lane) → input_bytes_at new k
    ≡ After (slice_index_or lanes k x) in
    let each = below_more Is j
    (λ k low x. ap (λ (l : List (List ℕ)). slice_index_or l k []) set
    ∙ get_or-set_other (map bytes pieces) j k c.piece_of.result.now []
    (λ e. absurd (omega (arith, e, low))) ∙ c.loop-j.invariant.1 k x low)
    (λ x. ap (λ (l : List (List ℕ)). slice_index_or l j []) set
    ∙ get_or-set_same (map bytes pieces) j c.piece_of.result.now []
    (omega (arith, length-map pieces bytes, c.loop-j.invariant.0, c.loop-j-test.true, c.requires.few.0))
    ∙ c.piece_of.ensures ∙ ap After
    (get_or_default lanes j _ x (omega (arith, c.loop-j-test.true, c.requires.few.1)))) in
    (length-set pieces j piece ∙ c.loop-j.invariant.0, λ k x lt. each k lt x)
