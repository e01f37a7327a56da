-- Made by tools/twins.py from proofs/many/blake2b/eight/compress_blocks/Invariants.antt.
use Rattle.std.proofs.Common.{◌≡◌, ◌<◌, ℕ, [], slice_index, slice_index_or}
use Rattle.blake2_simd.specs.Family.{blake2s}
use Rattle.blake2_simd.specs.Lanes.{in_lane}
use Rattle.blake2_compress.specs.Lanes.{after_blocks, block_lists, flags_at}
use Rattle.blake2_compress.proofs.many.blake2s.compress_blocks.Given as goal

abbrev pub invariant-loop-i : goal.invariant-loop-i
invariant-loop-i l = (j : ℕ) → j < 8
    → in_lane j l.rows ≡ after_blocks blake2s (in_lane j l.fn.h)
    (slice_index_or (block_lists l.fn.blocks) j []) (slice_index l.fn.counters j)
    (flags_at l.fn.flags j) l.i
