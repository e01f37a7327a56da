use Rattle.std.proofs.Common.{◌≡◌, ◌+◌, nat_eq, [], ◌∷◌, ap, ◌∙◌}
use Rattle.blake2_simd.specs.Family.{blake2b}
use Rattle.blake2_simd.proofs.Lanes.{for_each_of_four_lanes}
use Rattle.blake2_compress.specs.Hash.{compress as F, final}
use Rattle.blake2_compress.specs.Lanes.{flags_at}
use Rattle.blake2_parallel.proofs.lanes.blake2bp.compress_second.Goals as goal

pub returns : goal.returns
returns c j lane some =
    c.compress_short.ensures j lane
    ∙ ap (F blake2b _ _ _) (for_each_of_four_lanes
    (λ m. flags_at (c.last_block.result ∷ c.last_block-2.result
    ∷ c.last_block-3.result ∷ c.last_block-4.result ∷ []) m ≡ final (nat_eq (m + 1) 4))
    c.last_block.ensures c.last_block-2.ensures c.last_block-3.ensures c.last_block-4.ensures j lane)
