use Rattle.std.proofs.Common.{◌≡◌, ◌++◌, ◌∷◌, [], ℕ, List, length, map, sym, ap, ◌∙◌, arith, get_or}
use Rattle.std.proofs.lemmas.List.{take_all, take_more, map-append, length-map}
use Rattle.blake2_compress.specs.Hash.{Input, steps}
use Rattle.blake2_transcript.specs.Transcript.{Entry, entry, no_entry}
use Rattle.blake2_compress.specs.Views.{input_of}
use Rattle.blake2_transcript.specs.StepViews.{entry_of}
use Rattle.blake2_compress.specs.Run.{step_count}
use Rattle.blake2_compress.proofs.Runs.{length-steps}
use Rattle.blake2_transcript.proofs.RunTranscripts.{run_entries-at}
use Rattle.blake2_transcript.proofs.steps.entries.entries.Goals as goal

pub loop-i-preserved : goal.loop-i-preserved
loop-i-preserved g c size =
    let a : Input = input_of c.args.input.now in
    let i : ℕ = c.loop-i.i in
    let es : List Entry = map entry (steps g.f size a) in
    let counts = c.step_count-count.ensures in
    let many : length es ≡ step_count g.f a =
    length-map (steps g.f size a) entry ∙ length-steps g.f size a in
    let here : entry_of c.entry_at.result ≡ get_or es i no_entry =
    c.entry_at.ensures size ∙ sym (run_entries-at g.f size a i no_entry (omega arith)) in
    ap (map entry_of) c.in_ok-push.ensures.items ∙ map-append entry_of c.loop-i.entries.items _
    ∙ (λ k. c.loop-i.invariant size k ++ here k ∷ []) ∙ sym (take_more es i no_entry (omega arith))

pub returns : goal.returns
returns g c size =
    let a : Input = input_of c.args.input.now in
    let es : List Entry = map entry (steps g.f size a) in
    let counts = c.step_count-count.ensures in
    let many : length es ≡ step_count g.f a =
    length-map (steps g.f size a) entry ∙ length-steps g.f size a in
    c.loop-i.invariant size ∙ take_all c.loop-i.i es (omega arith)
