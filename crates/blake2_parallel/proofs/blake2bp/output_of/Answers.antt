use Rattle.std.proofs.Common.{ℕ, List, refl, ◌∙◌, arith, length-drop}
use Rattle.std.proofs.lemmas.List.{take_rest}
use Rattle.blake2_simd.specs.Family.{blake2b}
use Rattle.blake2_compress.specs.Hash.{final}
use Rattle.blake2_parallel.proofs.LongerRuns.{get_or-chunk_is_piece}
use Rattle.blake2_parallel.proofs.LongerRuns.{output-is_last_chain_of_last_block}
use Rattle.blake2_parallel.proofs.LongerRuns.{last_chain-after_compressed_block}
use Rattle.blake2_parallel.proofs.blake2bp.output_of.Goals as goal

pub loop-rest-preserved : goal.loop-rest-preserved
loop-rest-preserved c =
    let rest : List ℕ = c.loop-rest.rest.now in
    let chunks = c.as_chunks.ensures in
    record {
      run = λ flags. last_chain-after_compressed_block blake2b flags _ _ c.loop-rest.count _ rest _
          _ c.loop-rest-test.true
          (get_or-chunk_is_piece 128 _ 0 c.as_chunks.result.0.now rest _ chunks.front
          chunks.front_len
          (omega (arith, c.loop-rest-test.true)))
          c.compress.ensures refl (take_rest rest 128)
          ∙ c.loop-rest.invariant.run flags;
      counted = omega (arith, c.loop-rest.invariant.counted, length-drop 128 rest);
    }

pub returns : goal.returns
returns c =
    output-is_last_chain_of_last_block blake2b (final c.args.last_node) _ _ _ c.loop-rest.count _
    c.loop-rest.rest.now _ _ _
    c.loop-rest-test.false c.padded-block.ensures c.compress-2.ensures
    c.last_block-flags.ensures refl c.to_bytes.ensures (c.loop-rest.invariant.run _)
