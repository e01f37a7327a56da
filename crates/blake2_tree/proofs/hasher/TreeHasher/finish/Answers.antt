use Rattle.std.proofs.Common.{[], ap, sym, ◌∙◌, append-nil}
use Rattle.blake2_tree.specs.TreeHashers.{future}
use Rattle.blake2_tree.proofs.hasher.TreeHasher.finish.Goals as goal

pub returns-then-rest-four_leaves : goal.returns-then-rest-four_leaves
returns-then-rest-four_leaves g c =
    c.finish_four.ensures
    ∙ sym (ap (future c.close_fours-rest.new.self) (append-nil c.close_fours-rest.result.now))
    ∙ c.close_fours-rest.ensures.future []
    ∙ ap (future c.args.self) (append-nil c.args.input.now)

pub returns-else-best_lane_count-ge4 : goal.returns-else-best_lane_count-ge4
returns-else-best_lane_count-ge4 g c =
    c.finalize.ensures ∙ c.update.ensures.future [] ∙ c.close_fours-rest.ensures.future []
    ∙ ap (future c.args.self) (append-nil c.args.input.now)
