use Rattle.std.proofs.Common.{◌≡◌, []}
use Rattle.blake2_simd.specs.Family.{blake2b}
use Rattle.blake2_compress.specs.Hash.{input_start}
use Rattle.blake2_compress.specs.Lanes.{input_at}
use Rattle.blake2_compress.proofs.ManyMessages.{HoldsForFirst}
use Rattle.blake2_compress.proofs.many.blake2b.start_lanes.Given as goal

abbrev pub invariant-loop-j : goal.invariant-loop-j
invariant-loop-j l =
    HoldsForFirst 4 [] (λ k x. x ≡ input_start blake2b l.output_size (input_at l.inputs k)) l.words
    l.j
