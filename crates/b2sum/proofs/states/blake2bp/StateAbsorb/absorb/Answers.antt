use Rattle.std.proofs.Common.{false}
use Rattle.b2sum.proofs.states.blake2bp.StateAbsorb.absorb.Goals as goal

pub returns-clause-future : goal.returns-clause-future
returns-clause-future c = λ y. c.update.ensures.updated.future false y
