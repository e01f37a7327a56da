use Rattle.std.proofs.Common.{◌<◌, ℕ, List, false, ap, ◌∙◌, arith}
use Rattle.blake2_simd.specs.Family.{blake2b}
use Rattle.blake2_simd.specs.Lanes.{in_lane}
use Rattle.blake2_simd.proofs.Lanes.{list_of_four-at_lane}
use Rattle.blake2_compress.specs.Hash.{bytes_of, compress as F, final}
use Rattle.blake2_xof.proofs.lanes.blake2xb.last_of_four.Goals as goal

pub returns : goal.returns
returns c j lane =
    let last = c.last_block.ensures in
    let made = λ (h : List ℕ). bytes_of blake2b h in
    let out : ℕ → List ℕ = λ k. bytes_of blake2b
    (F blake2b (in_lane k c.args.rows.now) c.args.block.now c.args.count (final false)) in
    let of = λ (k : ℕ) (lt : k < 4). c.compress_each.ensures k lt in
    list_of_four-at_lane out _ _ _ _
    (c.to_bytes.ensures ∙ ap made (c.lane_rows.ensures ∙ of 0 (omega arith)
    ∙ ap (F blake2b (in_lane 0 c.args.rows.now) c.args.block.now c.args.count) last))
    (c.to_bytes-2.ensures ∙ ap made (c.lane_rows-2.ensures ∙ of 1 (omega arith)
    ∙ ap (F blake2b (in_lane 1 c.args.rows.now) c.args.block.now c.args.count) last))
    (c.to_bytes-3.ensures ∙ ap made (c.lane_rows-3.ensures ∙ of 2 (omega arith)
    ∙ ap (F blake2b (in_lane 2 c.args.rows.now) c.args.block.now c.args.count) last))
    (c.to_bytes-4.ensures ∙ ap made (c.lane_rows-4.ensures ∙ of 3 (omega arith)
    ∙ ap (F blake2b (in_lane 3 c.args.rows.now) c.args.block.now c.args.count) last))
    j lane
