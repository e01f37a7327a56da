use Rattle.std.proofs.Common.{◌≡◌, ℕ, ◌+◌, ◌==◌, length, take, Some, sym, ap, ◌∙◌, arith, rules}
use Rattle.std.proofs.lemmas.List.Sums.{position_or_len_is}
use Rattle.std.proofs.lemmas.List.{take_rest}
use Rattle.std.specs.List.{position_or_len}
use Rattle.text_lines.proofs.CutLemmas.{cut_at-first_index, cut_at-no_byte}
use Rattle.text_lines.proofs.cuts.split_once.Goals as goal

pub returns-in_err-place : goal.returns-in_err-place
returns-in_err-place c =
    let text = c.args.text.now in
    let none : position_or_len (λ (b : ℕ). b == c.args.byte) text ≡ length text =
    position_or_len_is (λ (b : ℕ). b == c.args.byte) text (length text) 0 (omega arith)
    (search rules) (search rules) in
    rw c.from_residual.ensures (sym (cut_at-no_byte c.args.byte text none))

pub returns : goal.returns
returns c =
    let text = c.args.text.now in
    let found = position_or_len_is (λ (b : ℕ). b == c.args.byte) text c.in_ok-place.place 0
    (search rules) (search rules) (search rules) in
    ap (λ xs. Some (take c.in_ok-place.place text, xs)) (take_rest text (c.in_ok-place.place + 1))
    ∙ sym (cut_at-first_index c.args.byte text c.in_ok-place.place found (search rules))
