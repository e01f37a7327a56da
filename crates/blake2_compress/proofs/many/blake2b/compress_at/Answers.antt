use Rattle.std.proofs.Common.{ℕ, List, [], slice_index_or, ◌∙◌}
use Rattle.std.proofs.lemmas.List.{get_or-replicate}
use Rattle.blake2_simd.specs.Family.{blake2b}
use Rattle.blake2_simd.specs.Lanes.{in_lane}
use Rattle.blake2_simd.proofs.Lanes.{list_of_four-at_lane}
use Rattle.blake2_compress.specs.Hash.{blocks, compress, input_data}
use Rattle.blake2_compress.specs.Lanes.{flags_at, input_at}
use Rattle.blake2_compress.proofs.many.blake2b.compress_at.Goals as goal

pub returns : goal.returns
returns c j h =
    let block : ℕ → List ℕ = λ k. slice_index_or
    (blocks blake2b (input_data blake2b (input_at c.args.inputs.now k))) c.args.i [] in
    let here = list_of_four-at_lane block _ _ _ _
    c.block_at.ensures c.block_at-2.ensures c.block_at-3.ensures
    c.block_at-4.ensures j h in
    let counted = get_or-replicate 4 j c.args.counter 0 h in
    c.compress_next.ensures j h
    ∙ (λ i. compress blake2b (in_lane j c.args.h.now) (here i) (counted i)
    (flags_at c.args.flags.now j))
