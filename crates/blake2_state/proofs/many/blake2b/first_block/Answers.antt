use Rattle.std.proofs.Common.{◌≡◌, ◌+◌, ◌-◌, ◌≤◌, ◌++◌, ℕ, List, length, take, sym, ap, ◌∙◌, arith}
use Rattle.std.proofs.Common.{rules, length-append}
use Rattle.std.proofs.Math.Seq.{take-append-add}
use Rattle.std.proofs.lemmas.List.{append-nil, drop_all, length-take-le, take-append-drop}
use Rattle.std.proofs.lemmas.Slice.{drop-put_mid, take-put_mid}
use Rattle.blake2_state.proofs.many.blake2b.first_block.Goals as goal

pub returns : goal.returns
returns c =
    let s = c.args.state.now in
    let p : ℕ = s.pending_length in
    let x : List ℕ = c.args.input.now in
    let held : List ℕ = take p s.pending in
    let z : List ℕ = c.copy_from_slice.new.self in
    let block : length s.pending ≡ 128 = search rules in
    let room : p ≤ 128 = c.requires.can.0.pending in
    let long : length held ≡ p = length-take-le p s.pending (omega (arith, block, room)) in
    let all : length held + (128 - p) ≡ 128 = omega (arith, long, room) in
    let copied : z ≡ take (128 - p) x = c.copy_from_slice.ensures.after in
    let fits : 128 - p ≤ length x = omega (arith, c.requires.enough, length-append held x, long) in
    let number : length z ≡ 128 - p = ap length copied ∙ length-take-le (128 - p) x fits in
    let before = take-put_mid p (128 - p) s.pending z 128 (omega (arith, number, room))
    (omega (arith, block, room)) in
    let after = drop-put_mid p (128 - p) s.pending z 128 (omega (arith, room))
    (omega (arith, block, room)) number ∙ drop_all 128 s.pending (omega (arith, block)) in
    sym (take-append-drop 128 _) ∙ (λ i. before i ++ after i) ∙ append-nil _
    ∙ ap (λ (l : List ℕ). held ++ l) copied
    ∙ sym (ap (λ (k : ℕ). take k (held ++ x)) (sym all) ∙ take-append-add held x (128 - p))
