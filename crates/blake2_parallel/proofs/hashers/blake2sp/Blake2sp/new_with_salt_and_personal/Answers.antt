-- Made by tools/twins.py from proofs/hashers/blake2bp/Blake2bp/new_with_salt_and_personal/Answers.antt.
use Rattle.std.proofs.Common.{refl}
use Rattle.blake2_simd.specs.Family.{blake2s}
use Rattle.blake2_parallel.specs.Blake2sp.{held_by}
use Rattle.blake2_parallel.proofs.StateLaws.{Fresh-by_fresh_part}
use Rattle.blake2_parallel.proofs.hashers.blake2sp.Blake2sp.new_with_salt_and_personal.Goals as goal

pub returns : goal.returns
returns g c = Fresh-by_fresh_part blake2s held_by (λ t. t.state) _ _ _ _ refl c.new.ensures.fresh
