use Rattle.std.proofs.Common.{◌≡◌, ◌<◌, ◌-◌, List, length, map, get_or, sym, ◌∙◌, arith}
use Rattle.blake2_simd.specs.Family.{block_bytes}
use Rattle.blake2_transcript.specs.declared.steps.Entry.{Entry}
use Rattle.blake2_transcript.specs.StepViews.{entry_of}
use Rattle.blake2_transcript.specs.Reader.{described_count}
use Rattle.blake2_transcript.proofs.RunEntries.{described_count-is_last_counter}
use Rattle.blake2_transcript.proofs.RunEntries.{joined_blocks-first_and_rest}
use Rattle.blake2_transcript.proofs.RunEntries.{HasKey-iff_zero_after_key}
use Rattle.blake2_transcript.proofs.steps.reader.has_key.Goals as goal

pub returns-then-last : goal.returns-then-last
returns-then-last g c =
    let es : List (Entry g.row.B) = c.args.entries.now in
    let first : Entry g.row.B = c.in-Some-Some.first.now in
    let last : Entry g.row.B = c.in-Some-Some.last.now in
    let family : block_bytes g.f ≡ g.row.B = assumption c in
    let some : 0 < length es = assumption c.in-Some-Some.ensures in
    let at_first : first ≡ get_or es 0 first = assumption c.in-Some-Some.ensures in
    let at_last : last ≡ get_or es (length es - 1) last = assumption c.in-Some-Some.ensures' in
    let counts : described_count (map entry_of es) ≡ last.counter =
    described_count-is_last_counter es last some at_last in
    let zeros = HasKey-iff_zero_after_key g.f c.args.key_size (map entry_of es) first.block _
    (joined_blocks-first_and_rest es first some at_first)
    (c.is_zero_from.ensures.whole ∙ sym family)
    (omega arith) in (
      λ t. zeros.0 (c.is_zero_from.ensures.zero.0 t),
      λ key. c.is_zero_from.ensures.zero.1 (zeros.1 key),
    )
