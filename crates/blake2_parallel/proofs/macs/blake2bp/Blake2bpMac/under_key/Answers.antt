use Rattle.blake2_simd.specs.Family.{blake2b}
use Rattle.blake2_parallel.specs.Blake2bp.{held_by}
use Rattle.blake2_parallel.proofs.LeafStarts.{parallel_key_count-with_key}
use Rattle.blake2_parallel.proofs.StateLaws.{Fresh-by_fresh_part}
use Rattle.blake2_parallel.proofs.macs.blake2bp.Blake2bpMac.under_key.Goals as goal

pub returns : goal.returns
returns g c =
    Fresh-by_fresh_part blake2b held_by (λ t. t.state) _ _ _ _
    (parallel_key_count-with_key blake2b c.args.key.now c.requires.some c.requires.key)
    c.new.ensures.fresh
