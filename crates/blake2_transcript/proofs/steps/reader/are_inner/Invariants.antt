use Rattle.std.proofs.Common.{◌<◌, ℕ, map, get_or}
use Rattle.blake2_transcript.specs.StepViews.{entry_of}
use Rattle.blake2_transcript.specs.Reader.{IsInnerEntry, HasWholeBlock}
use Rattle.blake2_transcript.specs.Transcript.{no_entry}
use Rattle.blake2_transcript.proofs.steps.reader.are_inner.Given as goal

abbrev pub ghost-is_inner : goal.ghost-is_inner
ghost-is_inner g a = g.f

abbrev pub invariant-loop-i : goal.invariant-loop-i
invariant-loop-i g l = record {
  inner : (k : ℕ) → k < l.i → IsInnerEntry g.f k (get_or (map entry_of l.entries) k no_entry);
  whole : (k : ℕ) → k < l.i → HasWholeBlock g.f (get_or (map entry_of l.entries) k no_entry);
}
