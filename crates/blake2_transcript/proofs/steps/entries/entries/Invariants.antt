use Rattle.std.proofs.Common.{◌≡◌, ℕ, map, take}
use Rattle.blake2_compress.specs.Hash.{steps}
use Rattle.blake2_transcript.specs.Transcript.{entry}
use Rattle.blake2_compress.specs.Views.{input_of}
use Rattle.blake2_transcript.specs.StepViews.{entry_of}
use Rattle.blake2_transcript.proofs.steps.entries.entries.Given as goal

abbrev pub ghost-step_count : goal.ghost-step_count
ghost-step_count g a = g.f

abbrev pub ghost-entry_at : goal.ghost-entry_at
ghost-entry_at g a = g.f

abbrev pub invariant-loop-i : goal.invariant-loop-i
invariant-loop-i g l = (size : ℕ) → map entry_of l.entries.items
    ≡ take l.i (map entry (steps g.f size (input_of l.input)))
