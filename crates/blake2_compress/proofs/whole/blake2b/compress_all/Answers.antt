use Rattle.std.proofs.Common.{◌≡◌, ◌+◌, ◌-◌, ◌*◌, ◌/◌, ◌<◌, ◌∙◌, ℕ, List, [], length, drop}
use Rattle.std.proofs.Common.{slice_index_or, false, ap, arith}
use Rattle.std.proofs.lemmas.List.{get_or_default, take_rest}
use Rattle.blake2_simd.specs.Family.{blake2b}
use Rattle.blake2_simd.specs.Rows.{chaining_words}
use Rattle.blake2_compress.specs.Hash.{block_count, blocks, compress, final, padded}
use Rattle.blake2_compress.proofs.WholeMessages.{inner_block-is_chunk, last_block-is_padded_rest}
use Rattle.blake2_compress.proofs.WholeMessages.{chain-zero_blocks, chain-one_more_block}
use Rattle.blake2_compress.proofs.WholeMessages.{last_chain-after_last_block}
use Rattle.blake2_compress.proofs.whole.blake2b.compress_all.Goals as goal

pub loop-i-init : goal.loop-i-init
loop-i-init c = chain-zero_blocks blake2b _ _ _

pub loop-i-preserved : goal.loop-i-preserved
loop-i-preserved c =
    let m : List ℕ = c.args.message.now in
    let i : ℕ = c.loop-i.i in
    let more : i + 1 < block_count blake2b (length m) =
    omega (arith, c.saturating_sub-inner.ensures, c.loop-i-test.true) in
    let held : i < length c.as_chunks.result.0.now =
    omega (arith, c.saturating_sub-inner.ensures, c.loop-i-test.true, c.as_chunks.ensures.front_len)
    in
    chain-one_more_block blake2b (chaining_words c.args.h.now) c.args.counted (blocks blake2b m) i _
    _ _ _
    c.loop-i.invariant c.compress.ensures (get_or_default c.as_chunks.result.0.now i _ [] held
    ∙ ap (λ l. slice_index_or l i []) c.as_chunks.ensures.front
    ∙ inner_block-is_chunk blake2b m i more)
    (omega arith)

pub returns : goal.returns
returns c =
    let m : List ℕ = c.args.message.now in
    let n : ℕ = c.loop-i.i in
    let inner : ℕ = c.saturating_sub-inner.result / 128 in
    let all : n ≡ inner = omega (arith, c.loop-i-test.false, c.loop-i.auto.i-end) in
    let last : n ≡ block_count blake2b (length m) - 1 =
    omega (arith, all, c.saturating_sub-inner.ensures) in
    let place : 128 * inner ≡ n * 128 = omega (arith, all) in
    last_chain-after_last_block blake2b (chaining_words c.args.h.now) c.args.counted m n _ _ _ _
    (final false)
    c.loop-i.invariant last
    (c.compress-2.ensures ∙ ap (compress blake2b _ _ _) c.last_block.ensures)
    (c.padded-block.ensures ∙ ap (padded 128) (take_rest m (128 * inner))
    ∙ ap (λ (k : ℕ). padded 128 (drop k m)) place
    ∙ last_block-is_padded_rest blake2b m n last) (omega arith)
