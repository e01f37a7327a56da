use Rattle.std.proofs.Common.{add-zero}
use Rattle.blake2_simd.specs.Round.{mix}
use Rattle.blake2_simd.proofs.Lanes.{tabulate-injective}
use Rattle.blake2_simd.proofs.rows.u64_lanes.u64x4.mix.Goals as goal

pub returns : goal.returns
unfolding mix
returns c = tabulate-injective 4 _ _ (
    rw (
      c.rotate_right_const-b2.ensures,
      c.bitxor-3.ensures,
      c.add-c2.ensures,
      c.rotate_right_const.ensures,
      c.bitxor-d2.ensures,
      c.sum_of-a2.ensures,
      c.rotate_right_const-b1.ensures,
      c.bitxor-2.ensures,
      c.add-c1.ensures,
      c.rotate_right_const-d1.ensures,
      c.bitxor.ensures,
      c.sum_of-a1.ensures,
    ) (simp add-zero))
