use Rattle.std.proofs.Common.{rules}
use Rattle.blake2_tree.proofs.hasher.TreeHasher.counted.Goals as goal

pub returns : goal.returns
returns g c = search rules
