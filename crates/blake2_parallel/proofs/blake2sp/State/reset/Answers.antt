-- Made by tools/twins.py from proofs/blake2bp/State/reset/Answers.antt.
use Rattle.std.proofs.Common.{refl, ap}
use Rattle.blake2_simd.specs.Family.{blake2s}
use Rattle.blake2_simd.specs.Lanes.{in_lane}
use Rattle.blake2_parallel.specs.Blake2sp.{held_by}
use Rattle.blake2_parallel.proofs.StateLaws.{StartedAgain-if_leaves_at_start}
use Rattle.blake2_parallel.proofs.blake2sp.State.reset.Goals as goal

pub returns-clause-reset : goal.returns-clause-reset
returns-clause-reset c =
    StartedAgain-if_leaves_at_start blake2s held_by _ _ refl refl refl
    (λ j. ap (in_lane j) c.new-self.ensures.rows) c.new-self.ensures.counter
    c.new-self.ensures.pending
