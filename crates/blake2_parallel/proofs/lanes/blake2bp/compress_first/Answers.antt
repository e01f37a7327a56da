use Rattle.std.proofs.Common.{◌≡◌, [], ◌∷◌, ap, ◌∙◌}
use Rattle.blake2_simd.specs.Family.{blake2b}
use Rattle.blake2_simd.proofs.Lanes.{for_each_of_four_lanes}
use Rattle.blake2_compress.specs.Hash.{compress as F}
use Rattle.blake2_compress.specs.Lanes.{flags_at}
use Rattle.blake2_parallel.specs.LeafStates.{last_but_one_stripe_flags}
use Rattle.blake2_parallel.proofs.lanes.blake2bp.compress_first.Goals as goal

pub returns : goal.returns
returns c j lane =
    c.compress_short.ensures j lane
    ∙ ap (F blake2b _ _ _) (for_each_of_four_lanes
    (λ m. flags_at (c.flags_before.result ∷ c.flags_before-2.result
    ∷ c.flags_before-3.result ∷ c.flags_before-4.result ∷ []) m ≡ last_but_one_stripe_flags blake2b c.args.n m)
    c.flags_before.ensures c.flags_before-2.ensures c.flags_before-3.ensures
    c.flags_before-4.ensures j lane)
