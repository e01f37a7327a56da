-- Made by tools/twins.py from proofs/lanes/blake2bp/Lanes/update/Answers.antt.
use Rattle.std.proofs.Common.{ap}
use Rattle.blake2_simd.specs.Family.{blake2s}
use Rattle.blake2_simd.specs.Lanes.{in_lane}
use Rattle.blake2_parallel.proofs.LeafSteps.{HasAbsorbed-input_becomes_pending}
use Rattle.blake2_parallel.proofs.LeafSteps.{HasAbsorbed-prefix_and_rest}
use Rattle.blake2_parallel.proofs.LeafSteps.{HasAbsorbedPrefix-empty_prefix}
use Rattle.blake2_parallel.proofs.LeafSteps.{HasAbsorbedPrefix-trans}
use Rattle.blake2_parallel.proofs.lanes.blake2sp.Lanes.update.Goals as goal

pub loop-self-init : goal.loop-self-init
loop-self-init c = record {
  sound = c.requires.sound;
  went_on = HasAbsorbedPrefix-empty_prefix blake2s _ c.args.input.now;
}

pub loop-self-preserved : goal.loop-self-preserved
loop-self-preserved c = record {
  sound = c.take_stripes-rest.ensures.sound;
  went_on = HasAbsorbedPrefix-trans blake2s _ _ _ _ _ _ c.loop-self.invariant.went_on
      c.take_stripes-rest.ensures.went_on;
}

pub returns-clause-took : goal.returns-clause-took
returns-clause-took c =
    HasAbsorbed-prefix_and_rest blake2s _ _ _ _ _ c.loop-self.invariant.went_on
    (HasAbsorbed-input_becomes_pending blake2s _ _ _
    (λ j. ap (in_lane j) c.append_pending.ensures.rows) c.append_pending.ensures.counter
    c.append_pending.ensures.pending)
