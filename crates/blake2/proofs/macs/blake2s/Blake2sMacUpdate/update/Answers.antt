-- Made by tools/twins.py from proofs/macs/blake2b/Blake2bMacUpdate/update/Answers.antt.
use Rattle.std.proofs.Common.{[], ◌∙◌, rules}
use Rattle.blake2.proofs.macs.blake2s.Blake2sMacUpdate.update.Goals as goal

pub invariant_of-self-clause-no_last_node : goal.invariant_of-self-clause-no_last_node
invariant_of-self-clause-no_last_node g c =
    (c.update.ensures g.row.N []).last_node ∙ c.args.self.now.no_last_node

pub returns : goal.returns
returns g c =
    let kept = c.update.ensures g.row.N c.args.self.now.start_block in search (rules, kept)
