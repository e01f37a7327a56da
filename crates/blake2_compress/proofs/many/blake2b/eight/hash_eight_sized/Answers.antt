use Rattle.std.proofs.Common.{rules}
use Rattle.blake2_simd.specs.Family.{blake2b}
use Rattle.blake2_compress.proofs.ManyMessages.{outputs-cut_to_digests}
use Rattle.blake2_compress.proofs.many.blake2b.eight.hash_eight_sized.Goals as goal

pub returns : goal.returns
returns c =
    outputs-cut_to_digests blake2b 8 c.args.output_size 64 c.args.inputs.now c.outputs.result
    (search rules) (search rules) c.requires.size c.outputs.ensures
