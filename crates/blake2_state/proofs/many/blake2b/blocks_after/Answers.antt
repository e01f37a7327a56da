use Rattle.std.proofs.Common.{◌≡◌, ◌-◌, ◌*◌, ◌/◌, ◌≤◌, ℕ, List, length, take, drop, ap, ◌∙◌}
use Rattle.std.proofs.Common.{arith, rules, length-append, length-drop}
use Rattle.std.proofs.lemmas.List.{length-take-le, take_rest}
use Rattle.std.proofs.Math.Nat.{mul-div_left}
use Rattle.std.specs.Simd.{first_chunks}
use Rattle.blake2_digest.proofs.Cutting.{first_chunks-take}
use Rattle.blake2_state.proofs.LaneRuns.{drop_rest-of_held_and_input}
use Rattle.blake2_state.proofs.many.blake2b.blocks_after.Goals as goal

pub returns : goal.returns
returns c =
    let s = c.args.state.now in
    let p : ℕ = s.pending_length in
    let x : List ℕ = c.args.input.now in
    let n : ℕ = c.args.count in
    let held : List ℕ = take p s.pending in
    let block : length s.pending ≡ 128 = search rules in
    let room : p ≤ 128 = c.requires.can.0.pending in
    let long : length held ≡ p = length-take-le p s.pending (omega (arith, block, room)) in
    let rest : List ℕ = drop (128 - p) x in
    let fits : 128 * n ≤ length rest =
    omega (arith, length-drop (128 - p) x, length-append held x, long, c.requires.enough) in
    let sliced : List ℕ = take (length x - (128 - p)) rest in
    let same : sliced ≡ rest = take_rest x (128 - p) in
    let front : List ℕ = take (128 * n) sliced in
    let size : length front ≡ 128 * n =
    length-take-le (128 * n) sliced (omega (arith, ap length same, fits)) in
    let number : length front / 128 ≡ n =
    ap (λ (k : ℕ). k / 128) (omega (arith, size)) ∙ mul-div_left n (omega arith) in
    c.as_chunks.ensures.front ∙ ap (λ (k : ℕ). first_chunks 128 k front) number
    ∙ ap (λ (l : List ℕ). first_chunks 128 n (take (128 * n) l)) same
    ∙ first_chunks-take 128 n (128 * n) rest (omega arith) fits
    ∙ ap (first_chunks 128 n) (drop_rest-of_held_and_input 128 p held x long room)
