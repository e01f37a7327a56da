use Rattle.std.proofs.Common.{refl}
use Rattle.blake2_simd.specs.Family.{blake2b}
use Rattle.blake2_parallel.specs.Blake2bp.{held_by}
use Rattle.blake2_parallel.proofs.StateLaws.{Fresh-by_fresh_part}
use Rattle.blake2_parallel.proofs.hashers.blake2bp.Blake2bp.new_with_salt_and_personal.Goals as goal

pub returns : goal.returns
returns g c = Fresh-by_fresh_part blake2b held_by (λ t. t.state) _ _ _ _ refl c.new.ensures.fresh
