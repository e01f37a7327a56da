use Rattle.std.proofs.Common.{refl}
use Rattle.blake2_transcript.proofs.RunEntries.{IsRun-by_last_entry, AreInnerEntries-before_last}
use Rattle.blake2_transcript.proofs.steps.reader.is_run.Goals as goal

pub returns-then-are_inner-clause-run : goal.returns-then-are_inner-clause-run
returns-then-are_inner-clause-run g c =
    let zeros = IsRun-by_last_entry g.f g.row.B _ _ _ (assumption c) c.in-Some.ensures.cases.0
    (c.if-are_inner.ensures.whole refl) (c.if-not-ends_run.ensures.ends.0 refl)
    (c.if-are_inner.ensures.inner.0 refl) in (
      λ t. zeros.0 (c.is_zero_from.ensures.zero.0 t),
      λ run. c.is_zero_from.ensures.zero.1 (zeros.1 run),
    )

pub returns-else-are_inner-clause-run : goal.returns-else-are_inner-clause-run
returns-else-are_inner-clause-run g c = (
  λ t. absurd cc,
  λ run. c.are_inner.ensures.inner.1
      (AreInnerEntries-before_last g.f _ _ _ c.in-Some.ensures.cases.0 run),
)
