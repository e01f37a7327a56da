-- Made by tools/twins.py from proofs/macs/blake2bp/Blake2bpMac/under_key/Answers.antt.
use Rattle.blake2_simd.specs.Family.{blake2s}
use Rattle.blake2_parallel.specs.Blake2sp.{held_by}
use Rattle.blake2_parallel.proofs.LeafStarts.{parallel_key_count-with_key}
use Rattle.blake2_parallel.proofs.StateLaws.{Fresh-by_fresh_part}
use Rattle.blake2_parallel.proofs.macs.blake2sp.Blake2spMac.under_key.Goals as goal

pub returns : goal.returns
returns g c =
    Fresh-by_fresh_part blake2s held_by (λ t. t.state) _ _ _ _
    (parallel_key_count-with_key blake2s c.args.key.now c.requires.some c.requires.key)
    c.new.ensures.fresh
