use Rattle.std.proofs.Common.{ap, ◌∙◌}
use Rattle.blake2_simd.specs.Family.{blake2b}
use Rattle.blake2_simd.specs.Rows.{columns, shuffled_rows}
use Rattle.blake2_simd.proofs.RoundByRows.{round-as_columns_and_shuffles}
use Rattle.blake2_simd.proofs.rows.u64_lanes.u64x4.round.Goals as goal

pub returns : goal.returns
returns c =
    c.columns_to_diagonals.ensures
    ∙ ap (shuffled_rows 1 0 3 2) (c.mix_rows-diagonals.ensures
    ∙ ap (λ v. columns blake2b v c.gather-3.result c.gather-4.result)
    (c.diagonals_to_columns.ensures ∙ ap (shuffled_rows 3 0 1 2) c.mix_rows-columns.ensures))
    ∙ rw (c.gather.ensures, c.gather-2.ensures, c.gather-3.ensures, c.gather-4.ensures)
    (round-as_columns_and_shuffles blake2b c.args.v.now c.args.m.now c.args.s.now)
