use Rattle.std.proofs.Common.{◌∙◌, ap}
use Rattle.blake2_simd.specs.Family.{blake2b}
use Rattle.blake2_simd.specs.Lanes.{in_lane}
use Rattle.blake2_simd.proofs.Lanes.{list_of_four-at_lane}
use Rattle.blake2_compress.specs.Hash.{bytes_of}
use Rattle.blake2_parallel.proofs.lanes.blake2bp.outputs_of.Goals as goal

pub returns : goal.returns
returns c j lane =
    list_of_four-at_lane (λ m. bytes_of blake2b (in_lane m c.args.rows.now)) _ _ _ _
    (c.to_bytes.ensures ∙ ap (bytes_of blake2b) c.lane_rows.ensures)
    (c.to_bytes-2.ensures ∙ ap (bytes_of blake2b) c.lane_rows-2.ensures)
    (c.to_bytes-3.ensures ∙ ap (bytes_of blake2b) c.lane_rows-3.ensures)
    (c.to_bytes-4.ensures ∙ ap (bytes_of blake2b) c.lane_rows-4.ensures) j lane
