-- Made by tools/twins.py from proofs/many/blake2b/eight/hash_eight_sized/Answers.antt.
use Rattle.std.proofs.Common.{rules}
use Rattle.blake2_simd.specs.Family.{blake2s}
use Rattle.blake2_compress.proofs.ManyMessages.{outputs-cut_to_digests}
use Rattle.blake2_compress.proofs.many.blake2s.hash_eight_sized.Goals as goal

pub returns : goal.returns
returns c =
    outputs-cut_to_digests blake2s 8 c.args.output_size 32 c.args.inputs.now c.outputs.result
    (search rules) (search rules) c.requires.size c.outputs.ensures
