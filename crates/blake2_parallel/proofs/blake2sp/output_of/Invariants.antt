-- Made by tools/twins.py from proofs/blake2bp/output_of/Invariants.antt.
use Rattle.std.proofs.Common.{◌≡◌, ◌+◌, length}
use Rattle.blake2_simd.specs.Family.{blake2s}
use Rattle.blake2_simd.specs.Rows.{chaining_words}
use Rattle.blake2_compress.specs.Hash.{Flags, last_chain}
use Rattle.blake2_parallel.proofs.blake2sp.output_of.Given as goal

-- The rest of the run is still to come.
abbrev pub invariant-loop-rest : goal.invariant-loop-rest
invariant-loop-rest l = record {
  run : (flags : Flags) → last_chain blake2s (chaining_words l.words) l.count l.rest flags
      ≡ last_chain blake2s (chaining_words l.fn.h) 0 l.fn.bytes flags;
  counted : l.count + length l.rest ≡ length l.fn.bytes;
}

abbrev pub decreases-loop-rest : goal.decreases-loop-rest
decreases-loop-rest l = length l.rest
