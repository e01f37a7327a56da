use Rattle.std.proofs.Common.{take}
use Rattle.std.specs.List.{All}
use Rattle.b2sum_commands.specs.ReadAhead.{HashesInLanes, IsDigestFor}
use Rattle.b2sum_commands.specs.declared.ahead.Found.{Found}
use Rattle.b2sum_commands.proofs.ahead.digest_ahead.Given as goal

abbrev pub invariant-loop-found : goal.invariant-loop-found
invariant-loop-found g l = HashesInLanes l.function.algorithm
    → All (λ (x : Found). ¬ IsDigestFor l.function l.name x)
    (take l.found-index l.ahead.found.items)
