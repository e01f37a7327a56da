use Rattle.std.proofs.Common.{◌≡◌, ◌+◌, ℕ, List, [], length, slice_index, slice_index_or, sym, ap}
use Rattle.std.proofs.Common.{◌∙◌}
use Rattle.std.proofs.Common.{arith, rules}
use Rattle.blake2_simd.specs.Family.{blake2b}
use Rattle.blake2_simd.specs.Lanes.{in_lane}
use Rattle.blake2_compress.specs.Hash.{compress, inner}
use Rattle.blake2_compress.specs.Lanes.{after_blocks, block_lists}
use Rattle.blake2_compress.proofs.ContinuedRuns.{after_blocks-continues_chain}
use Rattle.blake2_compress.proofs.Lanes.{block_lists-at, flags_at-inner, in_lane-equal_by_words}
use Rattle.blake2_compress.proofs.Lanes.{no_blocks, after_blocks-zero}
use Rattle.blake2_compress.proofs.many.blake2b.continue_four.Goals.{then-not-is_empty}
use Rattle.blake2_compress.proofs.many.blake2b.continue_four.Goals.{else-not-is_empty}
use Rattle.blake2_compress.proofs.many.blake2b.continue_four.Goals as goal

pub returns : goal.returns
returns c j lt =
    let h : List ℕ = slice_index_or c.args.words.now j [] in
    let counter : ℕ = slice_index c.args.counters.now j in
    let b : List ℕ = slice_index_or c.args.first.now j [] in
    let lists = block_lists c.args.later.now in
    let later : List (List ℕ) = slice_index_or lists j [] in
    let n : ℕ = length (slice_index_or lists 0 []) in
    let begun : List ℕ = in_lane j c.compress_next.new.h in
    let row : in_lane j c.interleave-rows.result ≡ h =
    in_lane-equal_by_words 8 j c.interleave-rows.result h (search rules) (c.requires.long j lt)
    (λ k low. c.interleave-rows.ensures j k lt low) in
    let first : begun ≡ compress blake2b h b (counter + 128) inner = c.compress_next.ensures j lt
    ∙ (λ i. compress blake2b (row i) b (c.counters_after.ensures j lt i) (flags_at-inner 4 j i)) in
    let many : length c.args.later.now ≡ 4 = search rules in
    let same = ap length (block_lists-at c.args.later.now 0 no_blocks (omega (arith, many))) in
    let rest : in_lane j c.if-not-is_empty.rows
    ≡ after_blocks blake2b begun later (counter + 256) inner n = elim c.if-not-is_empty.branch [
      | then-not-is_empty w ↦ ap (in_lane j) w.rows-is ∙ w.compress_blocks.ensures j lt
          ∙ (λ i. after_blocks blake2b begun later
          (w.counters_after-then-not-is_empty.ensures j lt i) (flags_at-inner 4 j i) n)
      | else-not-is_empty w ↦
          let none : n ≡ 0 = grind (arith, same, w.if-not-is_empty, c.is_empty.ensures) in
          ap (in_lane j) w.rows-is ∙ after_blocks-zero blake2b begun later (counter + 256) inner
          ∙ ap (after_blocks blake2b begun later (counter + 256) inner) (sym none)
    ] in
    c.separate.ensures j lt ∙ rest
    ∙ after_blocks-continues_chain blake2b h begun counter b later n first
