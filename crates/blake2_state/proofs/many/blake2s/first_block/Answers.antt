-- Made by tools/twins.py from proofs/many/blake2b/first_block/Answers.antt.
use Rattle.std.proofs.Common.{◌≡◌, ◌+◌, ◌-◌, ◌≤◌, ◌++◌, ℕ, List, length, take, sym, ap, ◌∙◌, arith}
use Rattle.std.proofs.Common.{rules, length-append}
use Rattle.std.proofs.Math.Seq.{take-append-add}
use Rattle.std.proofs.lemmas.List.{append-nil, drop_all, length-take-le, take-append-drop}
use Rattle.std.proofs.lemmas.Slice.{drop-put_mid, take-put_mid}
use Rattle.blake2_state.proofs.many.blake2s.first_block.Goals as goal

pub returns : goal.returns
returns c =
    let s = c.args.state.now in
    let p : ℕ = s.pending_length in
    let x : List ℕ = c.args.input.now in
    let held : List ℕ = take p s.pending in
    let z : List ℕ = c.copy_from_slice.new.self in
    let block : length s.pending ≡ 64 = search rules in
    let room : p ≤ 64 = c.requires.can.0.pending in
    let long : length held ≡ p = length-take-le p s.pending (omega (arith, block, room)) in
    let all : length held + (64 - p) ≡ 64 = omega (arith, long, room) in
    let copied : z ≡ take (64 - p) x = c.copy_from_slice.ensures.after in
    let fits : 64 - p ≤ length x = omega (arith, c.requires.enough, length-append held x, long) in
    let number : length z ≡ 64 - p = ap length copied ∙ length-take-le (64 - p) x fits in
    let before = take-put_mid p (64 - p) s.pending z 64 (omega (arith, number, room))
    (omega (arith, block, room)) in
    let after = drop-put_mid p (64 - p) s.pending z 64 (omega (arith, room))
    (omega (arith, block, room)) number ∙ drop_all 64 s.pending (omega (arith, block)) in
    sym (take-append-drop 64 _) ∙ (λ i. before i ++ after i) ∙ append-nil _
    ∙ ap (λ (l : List ℕ). held ++ l) copied
    ∙ sym (ap (λ (k : ℕ). take k (held ++ x)) (sym all) ∙ take-append-add held x (64 - p))
