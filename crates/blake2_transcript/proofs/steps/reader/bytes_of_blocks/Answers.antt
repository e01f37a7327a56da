use Rattle.std.proofs.Common.{◌≡◌, ◌-◌, ◌++◌, ℕ, List, length, map, take, min, sym, ap, ◌∙◌, arith}
use Rattle.std.proofs.lemmas.List.{take_min}
use Rattle.blake2_transcript.specs.Transcript.{joined_blocks}
use Rattle.blake2_transcript.specs.StepViews.{entry_of}
use Rattle.blake2_transcript.proofs.RunEntries.{take-append_remaining, joined_blocks-take_next}
use Rattle.blake2_transcript.proofs.steps.reader.bytes_of_blocks.Goals as goal

pub loop-entry-preserved : goal.loop-entry-preserved
loop-entry-preserved g c =
    let before : List ℕ =
    joined_blocks (map entry_of (take c.loop-entry.entry-index c.args.entries.now))
    in
    let block : List ℕ = c.entry-item.result.block in
    let n : ℕ = c.args.length in
    let more =
    joined_blocks-take_next c.args.entries.now c.loop-entry.entry-index c.entry-item.result
    c.loop-entry-test.true c.entry-item.is in
    let so_far = ap length c.loop-entry.invariant in
    let count : c.min-count.result ≡ min (n - length (take n before)) (length block) =
    omega arith in
    c.in_ok-extend_from_slice.ensures.items ∙ (λ i. c.loop-entry.invariant i
    ++ take (count i) block)
    ∙ ap (λ (xs : List ℕ). take n before ++ xs) (take_min (n - length (take n before)) block)
    ∙ sym (take-append_remaining n before block) ∙ ap (take n) (sym more)
