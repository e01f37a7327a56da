use Rattle.std.proofs.Common.{◌≡◌, ℕ, List, length, map, sym, ap, ◌∙◌, rules, get_or, Fits, w64}
use Rattle.blake2_simd.specs.Family.{blake2b}
use Rattle.blake2_simd.specs.Rows.{lane_rotations}
use Rattle.blake2_simd.proofs.ByteRotations.{picked_bytes-rotate_lanes, rotated_word}
use Rattle.blake2_simd.proofs.Words.{cells-drop}
use Rattle.blake2_simd.proofs.rows.u64_lanes.u64x4.rotate_bytes.Goals as goal

pub returns : goal.returns
returns c =
    let lanes = c.self.inside.lanes in
    let long : length lanes ≡ 4 = search rules in
    let fits : (i : ℕ) → Fits w64 (get_or lanes i 0) = search rules in
    picked_bytes-rotate_lanes blake2b lanes long (λ i. (fits i).fits)
    ∙ ap (map (rotated_word blake2b)) (sym (cells-drop lanes 0 4 long))
    ∙ ap (λ (row : List ℕ). lane_rotations blake2b row 16) c.self.view_is
