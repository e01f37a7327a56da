use Rattle.std.proofs.Common.{sym, ◌∙◌}
use Rattle.blake2_state.proofs.StateLaws.{Fresh-empty_list_is_no_key, Fresh-nonempty_list_is_key}
use Rattle.blake2_state.proofs.blake2b.State.init_tree.Goals as goal

pub returns-then-is_empty-clause-fresh : goal.returns-then-is_empty-clause-fresh
returns-then-is_empty-clause-fresh c =
    Fresh-empty_list_is_no_key _ _ c.args.given.now.key.now c.parameters-parameters.ensures
    (sym c.is_empty.ensures ∙ c.if-is_empty.true) c.unkeyed.ensures.fresh

pub returns-clause-fresh : goal.returns-clause-fresh
returns-clause-fresh c =
    Fresh-nonempty_list_is_key _ _ c.args.given.now.key.now c.parameters-parameters.ensures
    (sym c.is_empty.ensures ∙ c.if-is_empty.false) c.under_key.ensures.fresh
