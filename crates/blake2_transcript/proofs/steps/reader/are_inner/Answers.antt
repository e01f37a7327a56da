use Rattle.std.proofs.Common.{◌≡◌, ℕ, map, get_or, refl, sym, subst, below_more, arith}
use Rattle.blake2_transcript.specs.Transcript.{Entry, no_entry}
use Rattle.blake2_transcript.specs.StepViews.{entry_of}
use Rattle.blake2_transcript.specs.Reader.{IsInnerEntry, HasWholeBlock}
use Rattle.blake2_transcript.proofs.RunEntries.{entry_of-at}
use Rattle.blake2_transcript.proofs.steps.reader.are_inner.Goals as goal

pub loop-i-preserved : goal.loop-i-preserved
loop-i-preserved g c =
    let i : ℕ = c.loop-i.i in
    let here : get_or (map entry_of c.args.entries.now) i no_entry
    ≡ entry_of c.index-entries-i.result = entry_of-at _ i _ (omega arith) c.index-entries-i.is in
    record {
      inner = below_more _ _ c.loop-i.invariant.inner
          (subst (λ (e : Entry). IsInnerEntry g.f i e) (sym here)
          (c.if-not-is_inner.ensures.inner.0 refl));
      whole = below_more _ _ c.loop-i.invariant.whole
          (subst (λ (e : Entry). HasWholeBlock g.f e) (sym here) c.if-not-is_inner.ensures.whole);
    }
