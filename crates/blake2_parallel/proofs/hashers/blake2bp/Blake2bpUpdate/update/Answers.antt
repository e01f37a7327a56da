use Rattle.blake2_simd.specs.Family.{blake2b}
use Rattle.blake2_parallel.specs.Blake2bp.{held_by}
use Rattle.blake2_parallel.proofs.StateLaws.{Updated-by_updated_part}
use Rattle.blake2_parallel.proofs.hashers.blake2bp.Blake2bpUpdate.update.Goals as goal

pub returns : goal.returns
returns g c = Updated-by_updated_part blake2b held_by (λ t. t.state) _ _ _ c.update.ensures.updated
