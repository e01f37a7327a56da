use Rattle.std.proofs.Common.{◌∙◌}
use Rattle.b2sum_commands.proofs.SortedNames.{binary_search-is_has_name}
use Rattle.b2sum_commands.proofs.folder_checks.has_name.Goals as goal

pub returns : goal.returns
returns c =
    c.is_ok.ensures.value
    ∙ binary_search-is_has_name c.args.names.now c.args.name.now c.binary_search.result
    c.requires c.binary_search.ensures.bound c.binary_search.ensures.position
