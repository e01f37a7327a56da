use Rattle.std.proofs.Common.{◌≡◌, ℕ, [], length, slice_index_or, arith, rules}
use Rattle.blake2_simd.specs.Family.{blake2b}
use Rattle.blake2_simd.proofs.Lanes.{list_of_four-at_lane}
use Rattle.blake2_compress.specs.Lanes.{block_lists}
use Rattle.blake2_compress.proofs.Lanes.{after_blocks-zero, after_blocks-next}
use Rattle.blake2_compress.proofs.ManyMessages.{block_lists-read_at}
use Rattle.blake2_compress.proofs.many.blake2b.compress_blocks.Goals as goal

pub loop-i-init : goal.loop-i-init
loop-i-init c j h = after_blocks-zero blake2b _ _ _ _

pub loop-i-preserved : goal.loop-i-preserved
loop-i-preserved c j h =
    let lists = c.args.blocks.now in
    let long : length lists ≡ 4 = search rules in
    let i : ℕ = c.loop-i.i in
    let here = block_lists-read_at lists 4 i long c.requires.same_number c.loop-i-test.true in
    let at = list_of_four-at_lane
    (λ k. slice_index_or (slice_index_or (block_lists lists) k []) i []) _ _ _ _
    (here 0 _ (omega arith)) (here 1 _ (omega arith)) (here 2 _ (omega arith))
    (here 3 _ (omega arith)) j h in
    after_blocks-next blake2b _ _ _ _ i _ _ _ _ (c.loop-i.invariant j h)
    (c.compress_lanes.ensures j h)
    at (omega (arith, c.counters_after-counted.ensures j h))
