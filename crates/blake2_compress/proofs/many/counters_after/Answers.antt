use Rattle.std.proofs.Common.{arith}
use Rattle.blake2_compress.proofs.ManyMessages.{HoldsForFirst-all, HoldsForFirst-next}
use Rattle.blake2_compress.proofs.many.counters_after.Goals as goal

pub loop-j-preserved : goal.loop-j-preserved
loop-j-preserved g c = HoldsForFirst-next _ c.loop-j.invariant (omega arith) (omega arith)

pub returns : goal.returns
returns g c j lt = HoldsForFirst-all c.loop-j.invariant c.loop-j-test.false j lt
