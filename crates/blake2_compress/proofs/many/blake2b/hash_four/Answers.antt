use Rattle.std.proofs.Common.{rules}
use Rattle.blake2_simd.specs.Family.{blake2b}
use Rattle.blake2_compress.specs.Hash.{digest}
use Rattle.blake2_compress.specs.Lanes.{no_input}
use Rattle.blake2_compress.specs.Views.{input_of}
use Rattle.blake2_compress.proofs.Lanes.{map-by_index}
use Rattle.blake2_compress.proofs.many.blake2b.hash_four.Goals as goal

pub returns : goal.returns
unfolding digest
returns g c =
    map-by_index 4 (λ input. digest blake2b g.row.N (input_of input)) no_input c.args.inputs.now
    c.outputs.result (search rules) (search rules) c.outputs.ensures
