use Rattle.std.proofs.Common.{rules}
use Rattle.blake2_tree.proofs.hasher.tree_root.Goals as goal

pub returns : goal.returns
returns g c = search rules
