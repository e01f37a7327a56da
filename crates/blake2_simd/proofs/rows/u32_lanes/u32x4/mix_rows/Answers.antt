use Rattle.std.proofs.Common.{◌≡◌, [], length, ap, ◌∙◌, rules}
use Rattle.std.proofs.lemmas.List.{append-nil}
use Rattle.blake2_simd.specs.Family.{blake2s}
use Rattle.blake2_simd.specs.Rows.{work_words, columns, lane_rotations}
use Rattle.blake2_simd.proofs.Columns.{four_reads-are_list}
use Rattle.blake2_simd.proofs.Lanes.{columns-from_mixed_lanes}
use Rattle.blake2_simd.proofs.rows.u32_lanes.u32x4.mix_rows.Goals as goal

pub returns : goal.returns
returns c =
    let long : length c.args.v ≡ 4 = search rules in
    columns-from_mixed_lanes blake2s _ _ _ _ c.args.x c.args.y _ _ _
    (lane_rotations blake2s c.mix.result.3 8) c.mix.ensures
    ∙ ap (λ rows. columns blake2s (work_words rows) c.args.x c.args.y)
    (four_reads-are_list c.args.v [] _ _ _ _ long ∙ append-nil c.args.v)
