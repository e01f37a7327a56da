use Rattle.b2sum_commands.proofs.SortedNames.{sorted_permutation-as_bytes}
use Rattle.b2sum_commands.proofs.folders.in_order.Goals as goal

pub returns-clause-files : goal.returns-clause-files
returns-clause-files c =
    sorted_permutation-as_bytes c.args.found.files.items c.sort_unstable.new.self.items
    c.sort_unstable.ensures.permutation c.sort_unstable.ensures.sorted

pub returns-clause-others : goal.returns-clause-others
returns-clause-others c =
    sorted_permutation-as_bytes c.args.found.others.items c.sort_unstable-2.new.self.items
    c.sort_unstable-2.ensures.permutation c.sort_unstable-2.ensures.sorted
