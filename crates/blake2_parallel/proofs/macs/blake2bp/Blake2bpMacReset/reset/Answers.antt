use Rattle.blake2_simd.specs.Family.{blake2b}
use Rattle.blake2_parallel.specs.Blake2bp.{held_by}
use Rattle.blake2_parallel.proofs.StateLaws.{StartedAgain-by_restarted_part}
use Rattle.blake2_parallel.proofs.macs.blake2bp.Blake2bpMacReset.reset.Goals as goal

pub returns : goal.returns
returns g c = StartedAgain-by_restarted_part blake2b held_by (λ t. t.state) _ _
    c.reset.ensures.reset
