use Rattle.std.proofs.Common.{◌≡◌, ◌<◌, ℕ, ◌+◌, ◌*◌, List, ap, ◌∙◌, arith}
use Rattle.blake2_simd.specs.Family.{blake2s}
use Rattle.blake2_simd.specs.Lanes.{in_lane}
use Rattle.blake2_simd.proofs.Lanes.{list_of_eight-at_lane}
use Rattle.blake2_compress.specs.Hash.{compress as F}
use Rattle.blake2_compress.specs.MessagePieces.{piece}
use Rattle.blake2_compress.proofs.Lanes.{flags_at-inner}
use Rattle.blake2_parallel.specs.LeafStates.{leaf_chain}
use Rattle.blake2_parallel.proofs.LongerRuns.{get_or-chunk_is_piece, leaf_chain-one_stripe_more}
use Rattle.blake2_parallel.proofs.LongerRuns.{leaf_chain-of_no_stripes}
use Rattle.blake2_parallel.proofs.lanes.blake2sp.compress_in_lanes.Goals as goal

pub loop-i-init : goal.loop-i-init
loop-i-init c j lane = leaf_chain-of_no_stripes blake2s _ c.args.counter c.args.bytes.now j

pub loop-i-preserved : goal.loop-i-preserved
loop-i-preserved c j lane =
    let bytes : List ℕ = c.args.bytes.now in
    let i : ℕ = c.loop-i.i in
    let chunks = c.as_chunks.ensures in
    let at = λ (m k : ℕ) (d : List ℕ) (lt : m < 8) (is : k ≡ i * 8 + m).
    get_or-chunk_is_piece 64 _ k c.as_chunks.result.0.now bytes d chunks.front chunks.front_len
    (omega (arith, c.requires.whole, lt, is, c.loop-i-test.true)) ∙ ap (piece 64 bytes) is in
    let block = list_of_eight-at_lane (λ m. piece 64 bytes (i * 8 + m)) _ _ _ _ _ _ _ _
    (at 0 _ _ (omega arith) (omega arith)) (at 1 _ _ (omega arith) (omega arith))
    (at 2 _ _ (omega arith) (omega arith)) (at 3 _ _ (omega arith) (omega arith))
    (at 4 _ _ (omega arith) (omega arith)) (at 5 _ _ (omega arith) (omega arith))
    (at 6 _ _ (omega arith) (omega arith)) (at 7 _ _ (omega arith) (omega arith)) j lane in
    leaf_chain-one_stripe_more blake2s _ c.args.counter bytes j i _ _ _ _ (c.loop-i.invariant j lane)
    (c.compress.ensures j lane ∙ ap (F blake2s _ _ _) (flags_at-inner 8 j)) block (omega arith)

pub returns : goal.returns
returns c j lane =
    c.loop-i.invariant j lane
    ∙ ap (leaf_chain blake2s (in_lane j c.args.rows.now) c.args.counter c.args.bytes.now j)
    (omega arith)
