use Rattle.std.proofs.Common.{false}
use Rattle.b2sum.proofs.states.blake2bp.StateHashState.init_given.Goals as goal

pub returns-clause-digest : goal.returns-clause-digest
returns-clause-digest c = λ _ y. c.in-Ok.ensures.fresh.future false y
