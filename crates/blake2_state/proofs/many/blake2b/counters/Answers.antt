use Rattle.std.proofs.Common.{◌+◌, ap, arith}
use Rattle.std.proofs.lemmas.List.{get_or_default}
use Rattle.blake2_compress.proofs.ManyMessages.{HoldsForFirst-all, HoldsForFirst-next}
use Rattle.blake2_state.specs.Blake2b.{zeros}
use Rattle.blake2_state.specs.declared.blake2b.State.{State}
use Rattle.blake2_state.proofs.many.blake2b.counters.Goals as goal

pub loop-j-preserved : goal.loop-j-preserved
loop-j-preserved g c =
    let at = get_or_default c.args.states.now (c.args.from + c.loop-j.j) _ zeros
    (omega (arith, c.requires, c.loop-j-test.true)) in
    HoldsForFirst-next _ c.loop-j.invariant (omega arith) (ap (λ (s : State). s.counter) at)

pub returns : goal.returns
returns g c j lt = HoldsForFirst-all c.loop-j.invariant c.loop-j-test.false j lt
