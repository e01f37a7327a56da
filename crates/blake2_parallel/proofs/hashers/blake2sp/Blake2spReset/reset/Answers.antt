-- Made by tools/twins.py from proofs/hashers/blake2bp/Blake2bpReset/reset/Answers.antt.
use Rattle.blake2_simd.specs.Family.{blake2s}
use Rattle.blake2_parallel.specs.Blake2sp.{held_by}
use Rattle.blake2_parallel.proofs.StateLaws.{StartedAgain-by_restarted_part}
use Rattle.blake2_parallel.proofs.hashers.blake2sp.Blake2spReset.reset.Goals as goal

pub returns : goal.returns
returns g c = StartedAgain-by_restarted_part blake2s held_by (λ t. t.state) _ _
    c.reset.ensures.reset
