use Rattle.std.proofs.Common.{◌≡◌, ℕ, arith, rules, length, get_or, Fits, w64}
use Rattle.blake2_simd.specs.Family.{blake2b}
use Rattle.blake2_simd.proofs.Undoing.{unmix, mix-unmix}
use Rattle.blake2_simd.proofs.rows.u64_lanes.unmix.Goals as goal

pub returns : goal.returns
unfolding unmix
returns c =
    let w = c.args.w.now in
    let words : (i : ℕ) → Fits w64 (get_or w i 0) = search rules in
    let long : length w ≡ 16 = omega arith in
    let r = c.requires in
    rw (
      c.rotate_left-4.ensures,
      c.rotate_left-3.ensures,
      c.rotate_left-2.ensures,
      c.rotate_left.ensures,
    )
    (mix-unmix blake2b w c.args.a c.args.b c.args.c c.args.d c.args.x c.args.y
    (λ i. (words i).fits) c.ranges.x.fits c.ranges.y.fits r.0 r.1 r.2 (omega arith))
