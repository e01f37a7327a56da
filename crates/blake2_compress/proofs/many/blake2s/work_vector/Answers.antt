use Rattle.std.proofs.Common.{◌≡◌, ℕ, List, [], ◌++◌, length, slice_index, ap, ◌∙◌, rules}
use Rattle.blake2_simd.specs.Family.{blake2s}
use Rattle.blake2_simd.specs.Lanes.{in_lane}
use Rattle.blake2_compress.specs.Hash.{before_rounds}
use Rattle.blake2_compress.specs.Lanes.{flags_at}
use Rattle.blake2_compress.proofs.ManyMessages.{in_lane-before_rounds, for_each_of_eight}
use Rattle.blake2_compress.proofs.ManyMessages.{sixteen_reads-of_two_lists}
use Rattle.blake2_compress.proofs.many.blake2s.work_vector.Goals as goal

pub returns : goal.returns
returns c j h =
    let long : length c.args.h.now ≡ 8 = search rules in
    let many : length c.interleave-w.result ≡ 8 = search rules in
    let u : List ℕ = in_lane j c.args.h.now in
    let begun = for_each_of_eight (λ k w. u ++ w
    ≡ before_rounds blake2s u (slice_index c.args.counters.now k) (flags_at c.args.flags.now k)) []
    _ _ _ _ _ _ _ _
    (c.work_vector_end.ensures u) (c.work_vector_end-2.ensures u) (c.work_vector_end-3.ensures u)
    (c.work_vector_end-4.ensures u) (c.work_vector_end-5.ensures u) (c.work_vector_end-6.ensures u)
    (c.work_vector_end-7.ensures u) (c.work_vector_end-8.ensures u) j h in
    ap (in_lane j) (sixteen_reads-of_two_lists c.args.h.now c.interleave-w.result
    _ _ _ _ _ _ _ _ _ _ _ _ _ _ _ _ long many)
    ∙ in_lane-before_rounds blake2s j c.args.h.now c.interleave-w.result _ _ _ long many
    (λ k lt. c.interleave-w.ensures j k h lt) begun
