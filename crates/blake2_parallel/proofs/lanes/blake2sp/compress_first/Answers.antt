use Rattle.std.proofs.Common.{◌≡◌, [], ◌∷◌, ap, ◌∙◌}
use Rattle.blake2_simd.specs.Family.{blake2s}
use Rattle.blake2_simd.proofs.Lanes.{for_each_of_eight_lanes}
use Rattle.blake2_compress.specs.Hash.{compress as F}
use Rattle.blake2_compress.specs.Lanes.{flags_at}
use Rattle.blake2_parallel.specs.LeafStates.{last_but_one_stripe_flags}
use Rattle.blake2_parallel.proofs.lanes.blake2sp.compress_first.Goals as goal

pub returns : goal.returns
returns c j lane =
    c.compress_short.ensures j lane
    ∙ ap (F blake2s _ _ _) (for_each_of_eight_lanes
    (λ m. flags_at (c.flags_before.result ∷ c.flags_before-2.result
    ∷ c.flags_before-3.result ∷ c.flags_before-4.result ∷ c.flags_before-5.result
    ∷ c.flags_before-6.result ∷ c.flags_before-7.result ∷ c.flags_before-8.result ∷ []) m
    ≡ last_but_one_stripe_flags blake2s c.args.n m)
    c.flags_before.ensures c.flags_before-2.ensures c.flags_before-3.ensures
    c.flags_before-4.ensures c.flags_before-5.ensures c.flags_before-6.ensures
    c.flags_before-7.ensures c.flags_before-8.ensures j lane)
