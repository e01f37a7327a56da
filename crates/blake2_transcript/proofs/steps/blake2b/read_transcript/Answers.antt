use Rattle.std.proofs.Common.{ap, map, refl, rules}
use Rattle.blake2_simd.specs.Family.{blake2b}
use Rattle.blake2_transcript.specs.StepViews.{entry_of}
use Rattle.blake2_transcript.proofs.ReadableTranscripts.{test-iff_describes_some_input}
use Rattle.blake2_transcript.proofs.ReadableTranscripts.{described_input-is_only_one}
use Rattle.blake2_transcript.proofs.steps.blake2b.read_transcript.Goals as goal

pub returns-then-not-is_readable-clause-some : goal.returns-then-not-is_readable-clause-some
returns-then-not-is_readable-clause-some c =
    test-iff_describes_some_input blake2b _ _ _ _ _ _ _ c.to_rows.ensures c.to_bytes-block.ensures
    c.parameters_in-told.ensures (ap (map entry_of) c.as_slice-entries.ensures.value)
    c.if-not-is_readable.ensures.readable c.if-not-is_readable.ensures.typed

pub returns-in_err-input_of_entries-clause-memory : goal.returns-in_err-input_of_entries-clause-memory
returns-in_err-input_of_entries-clause-memory c =
    let told =
    test-iff_describes_some_input blake2b _ _ _ _ _ _ _ c.to_rows.ensures c.to_bytes-block.ensures
    c.parameters_in-told.ensures (ap (map entry_of) c.as_slice-entries.ensures.value)
    c.if-not-is_readable.ensures.readable c.if-not-is_readable.ensures.typed in
    search (rules, told.0 refl)

pub returns-clause-some : goal.returns-clause-some
returns-clause-some c =
    test-iff_describes_some_input blake2b _ _ _ _ _ _ _ c.to_rows.ensures c.to_bytes-block.ensures
    c.parameters_in-told.ensures (ap (map entry_of) c.as_slice-entries.ensures.value)
    c.if-not-is_readable.ensures.readable c.if-not-is_readable.ensures.typed

pub returns-clause-reading : goal.returns-clause-reading
returns-clause-reading c =
    described_input-is_only_one blake2b _ _ _ _ _ _ _ _ c.to_rows.ensures c.to_bytes-block.ensures
    c.parameters_in-told.ensures (ap (map entry_of) c.as_slice-entries.ensures.value)
    (c.if-not-is_readable.ensures.readable.0 refl) (c.if-not-is_readable.ensures.typed refl)
    c.in_ok-input_of_entries.ensures.size c.in_ok-input_of_entries.ensures.input
