use Rattle.std.proofs.Common.{◌≡◌, ℕ, length, ap, ◌∙◌, arith, rules, get_or, Fits, w32}
use Rattle.blake2_simd.specs.Family.{blake2s}
use Rattle.blake2_simd.specs.Rows.{lane_bytes}
use Rattle.blake2_simd.proofs.Bytes.{digits_l-are_lane_bytes}
use Rattle.blake2_simd.proofs.rows.u32_lanes.u32x4.to_bytes.Goals as goal

pub returns : goal.returns
returns c =
    let lanes = c.self.inside.lanes in
    let long : length lanes ≡ 4 = omega arith in
    let fits : (i : ℕ) → Fits w32 (get_or lanes i 0) = search rules in
    digits_l-are_lane_bytes blake2s 16 lanes (omega arith) (λ i. (fits i).fits)
    ∙ ap (lane_bytes blake2s) c.self.view_is
