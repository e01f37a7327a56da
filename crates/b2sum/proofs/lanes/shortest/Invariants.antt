use Rattle.std.proofs.Common.{◌<◌}
use Rattle.b2sum.proofs.lanes.shortest.Given as goal

abbrev pub invariant-loop-j : goal.invariant-loop-j
invariant-loop-j l = l.shortest < l.count
