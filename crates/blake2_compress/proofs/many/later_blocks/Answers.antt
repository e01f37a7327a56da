use Rattle.std.proofs.Common.{◌≡◌, ◌∙◌, ◌+◌, ◌≤◌, ℕ, List, [], length, slice_index_or, drop, ap}
use Rattle.std.proofs.Common.{sym, arith}
use Rattle.std.proofs.lemmas.List.{get_or-take, length-take-le, take_rest}
use Rattle.blake2_simd.specs.Family.{block_bytes}
use Rattle.blake2_compress.specs.Hash.{input_data}
use Rattle.blake2_compress.specs.Inputs.{Accepts}
use Rattle.blake2_compress.specs.Run.{step_count}
use Rattle.blake2_compress.specs.Views.{key_of, input_of}
use Rattle.blake2_compress.proofs.LaterBlocks.{rest_after_first_block-unkeyed}
use Rattle.blake2_compress.proofs.LaterBlocks.{rest_after_first_block-keyed, later_chunk-is_block}
use Rattle.blake2_compress.proofs.LaterBlocks.{later_chunks-cover_blocks}
use Rattle.blake2_compress.proofs.many.later_blocks.Given.{Over}
use Rattle.blake2_compress.proofs.many.later_blocks.Goals.{in-None, in-Some}
use Rattle.blake2_compress.proofs.many.later_blocks.Goals as goal

-- The bytes that the chunks are of.
rest-is_data_after_block : (g : Over) (c : goal.After-blocks-1 g)
    → c.match-input.rest.now ≡ drop g.row.B (input_data g.f (input_of c.args.input.now))
rest-is_data_after_block g c =
    let family : block_bytes g.f ≡ g.row.B = assumption c in
    let accepted : Accepts g.f (input_of c.args.input.now) = assumption c in
    let message : List ℕ = c.args.input.now.message.now in
    elim c.match-input.branch [
      | in-None w ↦
          ap (λ r. r.now) w.rest-is ∙ take_rest message w.min.result
          ∙ ap (λ (n : ℕ). drop n message) w.min.ensures
          ∙ rest_after_first_block-unkeyed g.f g.row.B family _ message (ap key_of w.in-None.is)
      | in-Some w ↦
          ap (λ r. r.now) w.rest-is ∙ rest_after_first_block-keyed g.f g.row.B family _ _ message
          (ap key_of w.in-Some.is) accepted.key_fits
    ]

-- The number of chunks.
chunks-are_enough : (g : Over) (c : goal.After-blocks-1 g)
    → c.args.count ≤ length c.as_chunks.result.0.now
chunks-are_enough g c =
    let family : block_bytes g.f ≡ g.row.B = assumption c in
    let within : c.args.count + 2 ≤ step_count g.f (input_of c.args.input.now) = assumption c in
    let all =
    later_chunks-cover_blocks g.f g.row.B family (input_of c.args.input.now) c.match-input.rest.now
    (rest-is_data_after_block g c) in
    omega (arith, within, all, c.as_chunks.ensures.front_len)

pub slice_bounds-result-end : goal.slice_bounds-result-end
slice_bounds-result-end g c = sym (length-take-le _ _ (chunks-are_enough g c))

pub returns : goal.returns
returns g c =
    let family : block_bytes g.f ≡ g.row.B = assumption c in
    let within : c.args.count + 2 ≤ step_count g.f (input_of c.args.input.now) = assumption c in
    record {
      long = length-take-le _ _ (chunks-are_enough g c);
      blocks = λ i lt. get_or-take _ _ i [] lt
          ∙ ap (λ (l : List (List ℕ)). slice_index_or l i []) c.as_chunks.ensures.front
          ∙ later_chunk-is_block g.f g.row.B family (input_of c.args.input.now)
          c.match-input.rest.now
          (rest-is_data_after_block g c) i (omega arith);
    }
