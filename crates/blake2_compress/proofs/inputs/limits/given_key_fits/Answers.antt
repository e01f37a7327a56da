use Rattle.std.proofs.Common.{◌≡◌, ◌≤◌, length, arith, List, ℕ}
use Rattle.std.proofs.lemmas.Grind.{common_steps}
use Rattle.blake2_simd.specs.Family.{block_bytes, key_bytes}
use Rattle.blake2_compress.proofs.InputBlocks.{length-data_bytes_with_key}
use Rattle.blake2_compress.proofs.inputs.limits.given_key_fits.Goals as goal

pub returns : goal.returns
returns g c =
    let key : List ℕ = c.args.key.now in
    let block : block_bytes g.f ≡ g.row.B = assumption c in
    let most : key_bytes g.f ≡ g.row.K = assumption c in
    let within : length key ≤ key_bytes g.f = omega arith in
    let some : 1 ≤ length key = grind (arith, common_steps) in
    let counted = length-data_bytes_with_key g.f key c.args.message.now within in (
      λ t. (
        (some, within, c.fits-key_within.ensures.bytes),
        omega (arith, c.fits.ensures.within.0 t),
      ),
      λ p. c.fits.ensures.within.1 (omega (arith, p.1)),
    )
