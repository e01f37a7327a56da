use Rattle.std.proofs.Common.{◌≡◌, length, arith, rules}
use Rattle.blake2_simd.specs.Family.{blake2b}
use Rattle.blake2_simd.proofs.Places.{mix_in_lane}
use Rattle.blake2_simd.proofs.rows.u64_wide.u64x8.mix_each.Goals as goal

pub returns : goal.returns
returns c j h =
    let v = c.args.v.now in
    let long : length v ≡ 16 = search rules in
    let order = c.requires in
    mix_in_lane blake2b v c.args.a c.args.b c.args.c c.args.d _ _ _ _ c.mix-va.result.0
    c.mix-va.result.1 c.mix-va.result.2 c.mix-va.result.3 j _ _
    (order.0, order.1, order.2, omega arith)
    (c.mix-va.ensures j h)
