use Rattle.std.proofs.Common.{◌≡◌, length, rules}
use Rattle.blake2_simd.specs.Round.{round}
use Rattle.blake2_simd.proofs.Columns.{scheduled_word-in_lane}
use Rattle.blake2_simd.proofs.rows.u32_wide.u32x8.round_each.Goals as goal

pub returns : goal.returns
unfolding round
returns c j h =
    let long : length c.args.m.now ≡ 16 = search rules in
    let all : length c.args.s.now ≡ 16 = search rules in
    let word = scheduled_word-in_lane c.args.m.now c.args.s.now j long all c.requires in
    rw (
      c.mix_each-8.ensures j h,
      c.mix_each-7.ensures j h,
      c.mix_each-6.ensures j h,
      c.mix_each-5.ensures j h,
      c.mix_each-4.ensures j h,
      c.mix_each-3.ensures j h,
      c.mix_each-2.ensures j h,
      c.mix_each.ensures j h,
    ) (simp word)
