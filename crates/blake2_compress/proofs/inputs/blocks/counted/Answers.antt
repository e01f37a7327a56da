use Rattle.std.proofs.Common.{◌≡◌, ap, ◌∙◌, ◌+◌, length, ℕ, sym}
use Rattle.blake2_simd.specs.Family.{block_bytes}
use Rattle.blake2_compress.specs.Inputs.{Accepts}
use Rattle.blake2_compress.specs.Views.{key_of, input_of}
use Rattle.blake2_compress.proofs.InputBlocks.{counted_without_key, counted_with_key}
use Rattle.blake2_compress.proofs.inputs.blocks.counted.Goals as goal

pub returns-in-None : goal.returns-in-None
returns-in-None g c = counted_without_key g.f _ _ (ap key_of c.in-None.is)

pub returns-in-Some : goal.returns-in-Some
returns-in-Some g c =
    let family : block_bytes g.f ≡ g.row.B = assumption c in
    let accepted : Accepts g.f (input_of c.args.input.now) = assumption c in
    ap (λ (n : ℕ). n + length c.args.input.now.message.now) (sym family)
    ∙ counted_with_key g.f _ _ _ (ap key_of c.in-Some.is) accepted.key_fits
