-- Made by tools/twins.py from proofs/whole/blake2b/compress_all/Invariants.antt.
use Rattle.std.proofs.Common.{◌≡◌}
use Rattle.blake2_simd.specs.Family.{blake2s}
use Rattle.blake2_simd.specs.Rows.{chaining_words}
use Rattle.blake2_compress.specs.Hash.{blocks, chain}
use Rattle.blake2_compress.proofs.whole.blake2s.compress_all.Given as goal

abbrev pub invariant-loop-i : goal.invariant-loop-i
invariant-loop-i l =
    chaining_words l.h ≡ chain blake2s (chaining_words l.fn.h) l.fn.counted (blocks blake2s l.fn.message) l.i
