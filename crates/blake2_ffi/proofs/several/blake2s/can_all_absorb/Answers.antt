-- Made by tools/twins.py from proofs/several/blake2b/can_all_absorb/Answers.antt.
use Rattle.std.proofs.Common.{below_more, arith}
use Rattle.blake2_state.specs.Blake2s.{CanAbsorb, CanAbsorbAt}
use Rattle.blake2_state.proofs.ManyBlake2s.{slice_index-holds_by_get_or}
use Rattle.blake2_ffi.proofs.several.blake2s.can_all_absorb.Goals as goal

pub loop-j-preserved : goal.loop-j-preserved
loop-j-preserved c =
    let states = c.args.states.now in
    let inputs = c.args.inputs.now in
    let lt = c.loop-j-test.true in
    below_more (CanAbsorbAt states inputs) c.loop-j.j c.loop-j.invariant
    (slice_index-holds_by_get_or CanAbsorb states inputs c.loop-j.j _ _ lt
    (omega (arith, lt, c.requires))
    (c.can_absorb.ensures.0 c.if-not-can_absorb.false))
