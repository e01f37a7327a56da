use Rattle.std.proofs.Common.{◌≡◌, ◌+◌, ◌-◌, ℕ, false, [], length, replicate, slice_index_or, sym}
use Rattle.std.proofs.Common.{ap}
use Rattle.std.proofs.Common.{◌∙◌, arith}
use Rattle.std.proofs.lemmas.List.{get_or-replicate}
use Rattle.blake2_simd.specs.Family.{blake2b}
use Rattle.blake2_simd.specs.Lanes.{in_lane}
use Rattle.blake2_compress.specs.declared.compress.Flags.{Flags}
use Rattle.blake2_compress.specs.Hash.{input_data}
use Rattle.blake2_compress.specs.Lanes.{after_blocks, block_lists, flags_at, input_at}
use Rattle.blake2_compress.specs.Run.{step_count}
use Rattle.blake2_compress.proofs.Lanes.{flags_at-inner, chain-no_blocks}
use Rattle.blake2_compress.proofs.ManyMessages.{AreLaterBlocks-of_each_input, HoldsForFirst-next}
use Rattle.blake2_compress.proofs.ManyMessages.{chain-all_but_last_block}
use Rattle.blake2_compress.proofs.SplitRuns.{block_count-positive}
use Rattle.blake2_compress.proofs.many.blake2b.compress_all_but_last.Goals as goal

pub returns-then-count-eq1 : goal.returns-then-count-eq1
returns-then-count-eq1 c j h =
    chain-no_blocks blake2b _ _ _ (omega (arith, c.step_count-count.ensures))

pub loop-j-preserved : goal.loop-j-preserved
loop-j-preserved c =
    HoldsForFirst-next _ c.loop-j.invariant (omega arith)
    (c.later_blocks.ensures.long, c.later_blocks.ensures.blocks)

pub compress_blocks-requires-clause-same_number : goal.compress_blocks-requires-clause-same_number
compress_blocks-requires-clause-same_number c j h =
    let later =
    AreLaterBlocks-of_each_input blake2b c.args.inputs.now _ c.loop-j.invariant
    c.loop-j-test.false in
    (later j h).0 ∙ sym (later 0 (omega arith)).0

pub compress_blocks-requires-clause-counted : goal.compress_blocks-requires-clause-counted
compress_blocks-requires-clause-counted c j h =
    let later =
    AreLaterBlocks-of_each_input blake2b c.args.inputs.now _ c.loop-j.invariant
    c.loop-j-test.false in
    omega (
      arith,
      (later 0 (omega arith)).0,
      c.step_count-count.ensures,
      c.requires.accepted 0 (omega arith),
      get_or-replicate {A = ℕ} 4 j 256 0 h,
    )

pub returns : goal.returns
returns c j h =
    let inputs = c.args.inputs.now in
    let n : ℕ = c.step_count-count.result - 2 in
    let some = block_count-positive blake2b (length (input_data blake2b (input_at inputs 0))) in
    let off : Flags = record { last = false; last_node = false } in
    let all : n + 1 ≡ step_count blake2b (input_at inputs 0) - 1 =
    omega (arith, c.step_count-count.ensures, some, c.if-count-eq1.false) in
    chain-all_but_last_block blake2b inputs (block_lists c.loop-j.later) 4 n j _ _ _ _
    (AreLaterBlocks-of_each_input blake2b inputs n c.loop-j.invariant c.loop-j-test.false) h
    (flags_at-inner 4 j)
    (c.compress_at.ensures j h) (c.compress_blocks.ensures j h
    ∙ ap (λ (t : ℕ). after_blocks blake2b (in_lane j c.compress_at.new.h)
    (slice_index_or (block_lists c.loop-j.later) j []) t (flags_at (replicate 4 off) j)
    (length (slice_index_or (block_lists c.loop-j.later) 0 [])))
    (get_or-replicate {A = ℕ} 4 j 256 0 h)) all
