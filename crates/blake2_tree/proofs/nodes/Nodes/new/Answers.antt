use Rattle.std.proofs.Common.{rules}
use Rattle.blake2_tree.proofs.nodes.Nodes.new.Goals as goal

pub returns : goal.returns
returns c = search rules
