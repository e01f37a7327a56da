use Rattle.std.proofs.Common.{◌≡◌, ℕ, List, [], ◌∷◌, ◌++◌, length, slice_index, slice_index_or, ap}
use Rattle.std.proofs.Common.{◌∙◌, rules}
use Rattle.blake2_simd.specs.Family.{blake2b}
use Rattle.blake2_simd.specs.Lanes.{in_lane}
use Rattle.blake2_simd.proofs.Lanes.{for_each_of_four_lanes}
use Rattle.blake2_compress.specs.Hash.{before_rounds}
use Rattle.blake2_compress.specs.Lanes.{flags_at}
use Rattle.blake2_compress.proofs.ManyMessages.{in_lane-before_rounds, sixteen_reads-of_two_lists}
use Rattle.blake2_compress.proofs.many.blake2b.work_vector.Goals as goal

pub returns : goal.returns
returns c j h =
    let long : length c.args.h.now ≡ 8 = search rules in
    let many : length c.interleave-w.result ≡ 8 = search rules in
    let u : List ℕ = in_lane j c.args.h.now in
    let ws : List (List ℕ) = c.work_vector_end.result ∷ c.work_vector_end-2.result ∷ c.work_vector_end-3.result
    ∷ c.work_vector_end-4.result ∷ [] in
    let begun = for_each_of_four_lanes (λ k. u ++ slice_index_or ws k []
    ≡ before_rounds blake2b u (slice_index c.args.counters.now k) (flags_at c.args.flags.now k))
    (c.work_vector_end.ensures u) (c.work_vector_end-2.ensures u) (c.work_vector_end-3.ensures u)
    (c.work_vector_end-4.ensures u) j h in
    ap (in_lane j) (sixteen_reads-of_two_lists c.args.h.now c.interleave-w.result
    _ _ _ _ _ _ _ _ _ _ _ _ _ _ _ _ long many)
    ∙ in_lane-before_rounds blake2b j c.args.h.now c.interleave-w.result _ _ _ long many
    (λ k lt. c.interleave-w.ensures j k h lt) begun
