use Rattle.std.proofs.Common.{[]}
use Rattle.blake2.proofs.hashers.blake2b.Blake2bUpdate.update.Goals as goal

pub returns : goal.returns
returns g c = let kept = c.update.ensures g.row.N [] in assumption kept
