use Rattle.std.proofs.Common.{◌≡◌, ℕ, List, length, map, slice_index, sym, ap, ◌∙◌, rules, get_or}
use Rattle.std.proofs.Common.{Fits, w32}
use Rattle.blake2_simd.specs.Family.{blake2s}
use Rattle.blake2_simd.specs.Lanes.{eight_lanes}
use Rattle.blake2_simd.proofs.ByteRotations.{picked_bytes-rotate_lanes, rotated_word}
use Rattle.blake2_simd.proofs.Words.{cells-drop}
use Rattle.blake2_simd.proofs.rows.u32_wide.u32x8.rotate_bytes.Goals as goal

pub returns : goal.returns
returns c =
    let lanes = c.self.inside.lanes in
    let long : length lanes ≡ 8 = search rules in
    let fits : (i : ℕ) → Fits w32 (get_or lanes i 0) = search rules in
    picked_bytes-rotate_lanes blake2s lanes long (λ i. (fits i).fits)
    ∙ ap (map (rotated_word blake2s)) (sym (cells-drop lanes 0 8 long))
    ∙ ap (λ (row : List ℕ). eight_lanes (λ j. rotated_word blake2s (slice_index row j)))
    c.self.view_is
