use Rattle.std.proofs.Common.{refl}
use Rattle.blake2_simd.specs.Family.{blake2b}
use Rattle.blake2_parallel.specs.Blake2bp.{held_by}
use Rattle.blake2_parallel.proofs.StateLaws.{Updated-by_absorbing_leaves}
use Rattle.blake2_parallel.proofs.blake2bp.State.update.Goals as goal

pub returns-clause-updated : goal.returns-clause-updated
returns-clause-updated c =
    Updated-by_absorbing_leaves blake2b held_by _ _ c.args.input.now refl refl refl
    c.update.ensures.took
