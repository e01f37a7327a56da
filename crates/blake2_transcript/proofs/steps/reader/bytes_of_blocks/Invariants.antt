use Rattle.std.proofs.Common.{◌≡◌, map, take}
use Rattle.blake2_transcript.specs.Transcript.{joined_blocks}
use Rattle.blake2_transcript.specs.StepViews.{entry_of}
use Rattle.blake2_transcript.proofs.steps.reader.bytes_of_blocks.Given as goal

abbrev pub invariant-loop-entry : goal.invariant-loop-entry
invariant-loop-entry g l = l.bytes.items ≡ take l.length
    (joined_blocks (map entry_of (take l.entry-index l.entries)))
