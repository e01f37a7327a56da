use Rattle.std.proofs.Common.{◌≡◌, ◌<◌, ◌+◌, ◌-◌, ◌*◌, min, ℕ, List, [], ◌∷◌, slice_index}
use Rattle.std.proofs.Common.{◌∙◌, arith}
use Rattle.blake2_simd.specs.Family.{blake2b}
use Rattle.blake2_simd.specs.Lanes.{in_lane}
use Rattle.blake2_simd.proofs.Lanes.{for_each_of_four_lanes, list_of_four-at_lane}
use Rattle.blake2_compress.specs.Hash.{compress as F}
use Rattle.blake2_compress.specs.Lanes.{flags_at}
use Rattle.blake2_compress.specs.MessagePieces.{piece}
use Rattle.blake2_parallel.proofs.LongerRuns.{get_or-chunk_is_piece}
use Rattle.blake2_parallel.proofs.lanes.blake2bp.compress_stripe.Goals as goal

pub returns : goal.returns
returns c j lane =
    let stripe : List ℕ = c.args.stripe.now in
    let n : ℕ = c.args.counter in
    let k : ℕ = c.args.n in
    let chunks = c.as_chunks.ensures in
    let at = λ (m : ℕ) (d : List ℕ) (lt : m < 4).
    get_or-chunk_is_piece 128 _ m c.as_chunks.result.0.now stripe d chunks.front chunks.front_len
    (omega (arith, lt, c.requires.whole)) in
    let block = list_of_four-at_lane (piece 128 stripe) _ _ _ _
    (at 0 _ (omega arith)) (at 1 _ (omega arith)) (at 2 _ (omega arith)) (at 3 _ (omega arith)) j lane
    in
    let counts : List ℕ = (n + c.part.result) ∷ (n + c.part-2.result) ∷ (n + c.part-3.result)
    ∷ (n + c.part-4.result) ∷ [] in
    let count = for_each_of_four_lanes (λ m. slice_index counts m ≡ n + min 128 (k - m * 128))
    (omega (arith, c.part.ensures)) (omega (arith, c.part-2.ensures))
    (omega (arith, c.part-3.ensures)) (omega (arith, c.part-4.ensures)) j lane in
    c.compress_each.ensures j lane
    ∙ (λ i. F blake2b (in_lane j c.args.rows.now) (block i) (count i) (flags_at c.args.flags.now j))
