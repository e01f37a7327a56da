use Rattle.std.proofs.Common.{◌∙◌, ap}
use Rattle.blake2_simd.specs.Family.{blake2s}
use Rattle.blake2_simd.specs.Lanes.{in_lane}
use Rattle.blake2_simd.proofs.Lanes.{list_of_eight-at_lane}
use Rattle.blake2_compress.specs.Hash.{bytes_of}
use Rattle.blake2_parallel.proofs.lanes.blake2sp.outputs_of.Goals as goal

pub returns : goal.returns
returns c j lane =
    list_of_eight-at_lane (λ m. bytes_of blake2s (in_lane m c.args.rows.now)) _ _ _ _ _ _ _ _
    (c.to_bytes.ensures ∙ ap (bytes_of blake2s) c.lane_rows.ensures)
    (c.to_bytes-2.ensures ∙ ap (bytes_of blake2s) c.lane_rows-2.ensures)
    (c.to_bytes-3.ensures ∙ ap (bytes_of blake2s) c.lane_rows-3.ensures)
    (c.to_bytes-4.ensures ∙ ap (bytes_of blake2s) c.lane_rows-4.ensures)
    (c.to_bytes-5.ensures ∙ ap (bytes_of blake2s) c.lane_rows-5.ensures)
    (c.to_bytes-6.ensures ∙ ap (bytes_of blake2s) c.lane_rows-6.ensures)
    (c.to_bytes-7.ensures ∙ ap (bytes_of blake2s) c.lane_rows-7.ensures)
    (c.to_bytes-8.ensures ∙ ap (bytes_of blake2s) c.lane_rows-8.ensures) j lane
