use Rattle.std.proofs.Common.{◌≡◌, ◌<◌, ◌-◌, ℕ, List, length, map, take, get_or, sym, ap, ◌∙◌}
use Rattle.std.proofs.Common.{arith, Some}
use Rattle.std.proofs.lemmas.List.{take_rest}
use Rattle.blake2_simd.specs.Family.{block_bytes}
use Rattle.blake2_transcript.specs.declared.steps.Entry.{Entry}
use Rattle.blake2_transcript.specs.Transcript.{joined_blocks}
use Rattle.blake2_transcript.specs.StepViews.{entry_of}
use Rattle.blake2_transcript.specs.Reader.{described_count, HasKey, IsRun}
use Rattle.blake2_transcript.proofs.RunEntries.{IsRun-nonempty, first_block-is_whole}
use Rattle.blake2_transcript.proofs.RunEntries.{described_count-is_last_counter}
use Rattle.blake2_transcript.proofs.RunEntries.{joined_blocks-first_and_rest}
use Rattle.blake2_transcript.proofs.RunEntries.{described_key-is_block_prefix}
use Rattle.blake2_transcript.proofs.RunEntries.{described_message-after_key_block}
use Rattle.blake2_transcript.proofs.steps.reader.key_and_message.Goals as goal

pub returns : goal.returns
returns g c =
    let es : List (Entry g.row.B) = c.args.entries.now in
    let n : ℕ = c.args.key_size in
    let given : 0 < n = omega arith in
    let run : IsRun g.f (map entry_of es) = assumption c in
    let key : 0 < n → HasKey g.f n (map entry_of es) = assumption c in
    let some : 0 < length es = IsRun-nonempty g.f es run in
    let size : length c.index-entries-0.result.block ≡ block_bytes g.f =
    first_block-is_whole g.f es _ (assumption c) some c.index-entries-0.is in
    let blocks = joined_blocks-first_and_rest es _ some c.index-entries-0.is in
    let family : block_bytes g.f ≡ g.row.B = assumption c in
    let last : Entry g.row.B = c.index-entries-entries.result in
    let counts : (get_or es (length es - 1) last).counter ≡ described_count (map entry_of es) =
    ap (λ (e : Entry g.row.B). e.counter) (sym c.index-entries-entries.is)
    ∙ sym (described_count-is_last_counter es last some c.index-entries-entries.is) in
    let left : (get_or es (length es - 1) last).counter - g.row.B
    ≡ described_count (map entry_of es) - block_bytes g.f = λ i. counts i - sym family i in record {
      key =
          ap (λ (l : List ℕ). Some l) (c.in_ok-key.ensures.items_if_clones_equal (λ x y e. e)
          ∙ ap (λ (e : Entry g.row.B). take n e.block) (sym c.index-entries-0.is))
          ∙ sym (described_key-is_block_prefix n (described_count (map entry_of es)) _ _ _ blocks
          given (omega arith)
          (omega (arith, (key given).counted)));
      message =
          c.in_ok-message.ensures
          ∙ (λ i. take (left i) (joined_blocks (map entry_of (take_rest es 1 i))))
          ∙ sym (described_message-after_key_block g.f n (described_count (map entry_of es)) _ _ _
          blocks given size
          (key given).counted);
    }
