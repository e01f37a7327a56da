-- Made by tools/twins.py from proofs/blake2bp/State/update/Answers.antt.
use Rattle.std.proofs.Common.{refl}
use Rattle.blake2_simd.specs.Family.{blake2s}
use Rattle.blake2_parallel.specs.Blake2sp.{held_by}
use Rattle.blake2_parallel.proofs.StateLaws.{Updated-by_absorbing_leaves}
use Rattle.blake2_parallel.proofs.blake2sp.State.update.Goals as goal

pub returns-clause-updated : goal.returns-clause-updated
returns-clause-updated c =
    Updated-by_absorbing_leaves blake2s held_by _ _ c.args.input.now refl refl refl
    c.update.ensures.took
