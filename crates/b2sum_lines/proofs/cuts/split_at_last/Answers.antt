use Rattle.std.proofs.Common.{◌≡◌, ◌+◌, ◌-◌, ◌<◌, length, take, drop, Some, None}
use Rattle.std.proofs.Common.{refl, sym, ap, ◌∙◌, arith, eq-eqb}
use Rattle.std.proofs.lemmas.List.{take_rest}
use Rattle.b2sum_lines.specs.ManifestLines.{split_at_last}
use Rattle.b2sum_lines.proofs.TextLoops.{split_at_last-at_index}
use Rattle.b2sum_lines.proofs.cuts.split_at_last.Goals as goal

pub returns-then-text-at : goal.returns-then-text-at
returns-then-text-at c =
    let text = c.args.text.now in
    let i = c.searching.at - 1 in
    let below : i < length text = omega (arith, c.searching.invariant.within, c.searching-test.true) in
    let same : i + 1 ≡ c.searching.at = omega (arith, c.searching-test.true) in
    let none : split_at_last c.args.byte (drop (i + 1) text) ≡ None =
    rw same c.searching.invariant.none in
    ap (λ xs. Some (take i text, xs)) (take_rest text (i + 1))
    ∙ sym (split_at_last-at_index c.args.byte text i below c.if-text-at.true
    (eq-eqb c.args.byte c.args.byte refl) none)
