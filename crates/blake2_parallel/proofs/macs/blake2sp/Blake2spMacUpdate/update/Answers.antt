-- Made by tools/twins.py from proofs/macs/blake2bp/Blake2bpMacUpdate/update/Answers.antt.
use Rattle.blake2_simd.specs.Family.{blake2s}
use Rattle.blake2_parallel.specs.Blake2sp.{held_by}
use Rattle.blake2_parallel.proofs.StateLaws.{Updated-by_updated_part}
use Rattle.blake2_parallel.proofs.macs.blake2sp.Blake2spMacUpdate.update.Goals as goal

pub returns : goal.returns
returns g c = Updated-by_updated_part blake2s held_by (λ t. t.state) _ _ _ c.update.ensures.updated
