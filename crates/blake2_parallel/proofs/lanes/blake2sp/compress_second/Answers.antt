use Rattle.std.proofs.Common.{◌≡◌, ◌+◌, nat_eq, [], ◌∷◌, ap, ◌∙◌}
use Rattle.blake2_simd.specs.Family.{blake2s}
use Rattle.blake2_simd.proofs.Lanes.{for_each_of_eight_lanes}
use Rattle.blake2_compress.specs.Hash.{compress as F, final}
use Rattle.blake2_compress.specs.Lanes.{flags_at}
use Rattle.blake2_parallel.proofs.lanes.blake2sp.compress_second.Goals as goal

pub returns : goal.returns
returns c j lane some =
    c.compress_short.ensures j lane
    ∙ ap (F blake2s _ _ _) (for_each_of_eight_lanes
    (λ m. flags_at (c.last_block.result ∷ c.last_block-2.result
    ∷ c.last_block-3.result ∷ c.last_block-4.result ∷ c.last_block-5.result
    ∷ c.last_block-6.result ∷ c.last_block-7.result ∷ c.last_block-8.result ∷ []) m ≡ final (nat_eq (m + 1) 8))
    c.last_block.ensures c.last_block-2.ensures c.last_block-3.ensures c.last_block-4.ensures
    c.last_block-5.ensures c.last_block-6.ensures c.last_block-7.ensures c.last_block-8.ensures
    j lane)
