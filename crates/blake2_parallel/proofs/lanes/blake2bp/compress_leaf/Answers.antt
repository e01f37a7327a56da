use Rattle.std.proofs.Common.{◌≡◌, ℕ, ◌+◌, ◌*◌, List, ap, ◌∙◌, arith}
use Rattle.blake2_simd.specs.Family.{blake2b}
use Rattle.blake2_simd.specs.Rows.{chaining_words}
use Rattle.blake2_compress.specs.MessagePieces.{piece}
use Rattle.blake2_parallel.specs.LeafStates.{leaf_chain}
use Rattle.blake2_parallel.proofs.LongerRuns.{get_or-chunk_is_piece, leaf_chain-one_stripe_more}
use Rattle.blake2_parallel.proofs.LongerRuns.{leaf_chain-of_no_stripes}
use Rattle.blake2_parallel.proofs.lanes.blake2bp.compress_leaf.Goals as goal

pub loop-i-init : goal.loop-i-init
loop-i-init c = leaf_chain-of_no_stripes blake2b _ c.args.counter c.args.bytes.now c.args.j

pub loop-i-preserved : goal.loop-i-preserved
loop-i-preserved c =
    let bytes : List ℕ = c.args.bytes.now in
    let i : ℕ = c.loop-i.i in
    let chunks = c.as_chunks.ensures in
    let is : 4 * i + c.args.j ≡ i * 4 + c.args.j = omega arith in
    leaf_chain-one_stripe_more blake2b _ c.args.counter bytes c.args.j i _ _ _ _ c.loop-i.invariant
    c.compress.ensures
    (get_or-chunk_is_piece 128 _ (4 * i + c.args.j) c.as_chunks.result.0.now bytes _ chunks.front
    chunks.front_len (omega (arith, c.requires.whole, c.requires.lane, c.loop-i-test.true))
    ∙ ap (piece 128 bytes) is) (omega arith)

pub returns : goal.returns
returns c =
    c.to_words.ensures ∙ c.loop-i.invariant
    ∙ ap (leaf_chain blake2b (chaining_words c.args.h) c.args.counter c.args.bytes.now c.args.j) (omega arith)
