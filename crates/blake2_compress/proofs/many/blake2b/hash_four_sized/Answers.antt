use Rattle.std.proofs.Common.{rules}
use Rattle.blake2_simd.specs.Family.{blake2b}
use Rattle.blake2_compress.proofs.ManyMessages.{outputs-cut_to_digests}
use Rattle.blake2_compress.proofs.many.blake2b.hash_four_sized.Goals as goal

pub returns : goal.returns
returns c =
    outputs-cut_to_digests blake2b 4 c.args.output_size 64 c.args.inputs.now c.outputs.result
    (search rules) (search rules) c.requires.size c.outputs.ensures
