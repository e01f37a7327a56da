use Rattle.std.proofs.Common.{refl, sym, true≢false, ◌∙◌}
use Rattle.std.proofs.lemmas.Bool.Decides.{Decides-eqb}
use Rattle.std.proofs.lemmas.Slice.Eq.{slice_eq-Decides}
use Rattle.b2sum_commands.proofs.ahead.is_of.Goals as goal

pub returns-clause-right : goal.returns-clause-right
returns-clause-right c is =
    let same = slice_eq-Decides Decides-eqb c.as_slice.result.now c.args.name.now c.eq.result
    c.eq.ensures in
    (c.if-not-are_same.ensures.same refl, sym c.as_slice.ensures.value ∙ same.0 is)

pub returns-clause-wrong : goal.returns-clause-wrong
returns-clause-wrong c is has both =
    let same = slice_eq-Decides Decides-eqb c.as_slice.result.now c.args.name.now c.eq.result
    c.eq.ensures in
    true≢false (sym (same.1 (c.as_slice.ensures.value ∙ both.1)) ∙ is)
