use Rattle.std.proofs.Common.{◌<◌, ℕ, List, false, ap, ◌∙◌, arith}
use Rattle.blake2_simd.specs.Family.{blake2s}
use Rattle.blake2_simd.specs.Lanes.{in_lane}
use Rattle.blake2_simd.proofs.Lanes.{list_of_eight-at_lane}
use Rattle.blake2_compress.specs.Hash.{bytes_of, compress as F, final}
use Rattle.blake2_xof.proofs.lanes.blake2xs.last_of_eight.Goals as goal

pub returns : goal.returns
returns c j lane =
    let last = c.last_block.ensures in
    let made = λ (h : List ℕ). bytes_of blake2s h in
    let out : ℕ → List ℕ = λ k. bytes_of blake2s
    (F blake2s (in_lane k c.args.rows.now) c.args.block.now c.args.count (final false)) in
    let of = λ (k : ℕ) (lt : k < 8). c.compress_each.ensures k lt in
    list_of_eight-at_lane out _ _ _ _ _ _ _ _
    (c.to_bytes.ensures ∙ ap made (c.lane_rows.ensures ∙ of 0 (omega arith)
    ∙ ap (F blake2s (in_lane 0 c.args.rows.now) c.args.block.now c.args.count) last))
    (c.to_bytes-2.ensures ∙ ap made (c.lane_rows-2.ensures ∙ of 1 (omega arith)
    ∙ ap (F blake2s (in_lane 1 c.args.rows.now) c.args.block.now c.args.count) last))
    (c.to_bytes-3.ensures ∙ ap made (c.lane_rows-3.ensures ∙ of 2 (omega arith)
    ∙ ap (F blake2s (in_lane 2 c.args.rows.now) c.args.block.now c.args.count) last))
    (c.to_bytes-4.ensures ∙ ap made (c.lane_rows-4.ensures ∙ of 3 (omega arith)
    ∙ ap (F blake2s (in_lane 3 c.args.rows.now) c.args.block.now c.args.count) last))
    (c.to_bytes-5.ensures ∙ ap made (c.lane_rows-5.ensures ∙ of 4 (omega arith)
    ∙ ap (F blake2s (in_lane 4 c.args.rows.now) c.args.block.now c.args.count) last))
    (c.to_bytes-6.ensures ∙ ap made (c.lane_rows-6.ensures ∙ of 5 (omega arith)
    ∙ ap (F blake2s (in_lane 5 c.args.rows.now) c.args.block.now c.args.count) last))
    (c.to_bytes-7.ensures ∙ ap made (c.lane_rows-7.ensures ∙ of 6 (omega arith)
    ∙ ap (F blake2s (in_lane 6 c.args.rows.now) c.args.block.now c.args.count) last))
    (c.to_bytes-8.ensures ∙ ap made (c.lane_rows-8.ensures ∙ of 7 (omega arith)
    ∙ ap (F blake2s (in_lane 7 c.args.rows.now) c.args.block.now c.args.count) last))
    j lane
