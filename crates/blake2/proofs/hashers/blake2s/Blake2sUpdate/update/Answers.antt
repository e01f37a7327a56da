-- Made by tools/twins.py from proofs/hashers/blake2b/Blake2bUpdate/update/Answers.antt.
use Rattle.std.proofs.Common.{[]}
use Rattle.blake2.proofs.hashers.blake2s.Blake2sUpdate.update.Goals as goal

pub returns : goal.returns
returns g c = let kept = c.update.ensures g.row.N [] in assumption kept
