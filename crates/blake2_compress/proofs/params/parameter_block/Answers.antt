use Rattle.std.proofs.Common.{◌≡◌, ◌+◌, ◌≤◌, arith}
use Rattle.blake2_simd.specs.Family.{offset_bytes, reserved_bytes, salt_bytes}
use Rattle.blake2_compress.specs.Hash.{Fits, Parameters}
use Rattle.blake2_compress.specs.Views.{given_parameters}
use Rattle.blake2_compress.proofs.ParameterBlock.{put_mid-parameter_block}
use Rattle.blake2_compress.proofs.params.parameter_block.Goals as goal

pub returns : goal.returns
returns g c =
    let p : Parameters = given_parameters c.args.parameters.now in
    let offset : offset_bytes g.f ≡ g.row.O = assumption c in
    let room : g.row.O ≤ 8 = omega arith in
    let reserved : reserved_bytes g.f ≡ g.row.R = assumption c in
    let salt : salt_bytes g.f ≡ g.row.S = assumption c in
    let table : 8 + g.row.O + 2 + g.row.R + g.row.S + g.row.S ≡ g.row.N = omega arith in
    let fits : Fits g.f p = assumption c in
    rw (
      c.copy_from_slice.ensures.after,
      c.copy_from_slice-2.ensures.after,
      c.copy_from_slice-3.ensures.after,
      c.copy_from_slice-4.ensures.after,
      c.copy_from_slice-5.ensures.after,
      c.copy_from_slice-6.ensures.after,
      c.to_le_bytes.ensures,
      c.to_le_bytes-2.ensures,
    ) (put_mid-parameter_block g.f g.row.N g.row.O g.row.R g.row.S p offset room reserved salt table
    fits)
