use Rattle.std.proofs.Common.{◌≡◌, [], ◌∷◌, slice_index_or, take}
use Rattle.blake2_simd.specs.Family.{blake2b}
use Rattle.blake2_simd.specs.Rows.{chaining_words}
use Rattle.blake2_compress.specs.Hash.{bytes_of}
use Rattle.blake2_compress.proofs.ManyMessages.{HoldsForFirst}
use Rattle.blake2_compress.proofs.many.blake2b.outputs.Given as goal

abbrev pub invariant-loop-j : goal.invariant-loop-j
invariant-loop-j g l = HoldsForFirst 4 [] (λ k x. x ≡ take g.row.N (bytes_of blake2b
    (chaining_words (slice_index_or l.low k [] ∷ slice_index_or l.high k [] ∷ [])))) l.outputs l.j
