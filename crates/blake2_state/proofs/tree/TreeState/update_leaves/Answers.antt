use Rattle.std.proofs.Common.{◌≡◌, ◌<◌, false, ℕ, sym, ◌∙◌, rules}
use Rattle.std.specs.Bool.{◌==◌}
use Rattle.blake2_tree.proofs.LeafUpdateLaws.{HasAbsorbedLeaves-no_digests}
use Rattle.blake2_tree.proofs.LeafUpdateLaws.{HasAbsorbedLeaves-after_closed_leaf}
use Rattle.blake2_tree.proofs.LeafUpdateLaws.{HasAbsorbedDigests-no_digests}
use Rattle.blake2_tree.proofs.LeafUpdateLaws.{HasAbsorbedDigests-after_closed_leaf}
use Rattle.blake2_tree.proofs.LeafUpdateLaws.{count_after_digests-below_limit}
use Rattle.blake2_state.specs.TreeStates.{state_tree}
use Rattle.blake2_state.proofs.tree.TreeState.update_leaves.Goals as goal

nonzero-is_positive : (n : ℕ) → false ≡ (n == 0) → 0 < n
nonzero-is_positive n e = search rules

pub returns-then-is_empty-clause-digests : goal.returns-then-is_empty-clause-digests
returns-then-is_empty-clause-digests c = HasAbsorbedDigests-no_digests (search rules)
    c.update.ensures.taken

pub returns-then-is_empty-clause-taken : goal.returns-then-is_empty-clause-taken
returns-then-is_empty-clause-taken c = λ opened.
    HasAbsorbedLeaves-no_digests c.requires.ready.lengths.some (search rules) c.update.ensures.taken

pub close_given-requires-clause-fits : goal.close_given-requires-clause-fits
close_given-requires-clause-fits c =
    count_after_digests-below_limit (state_tree c.begin_leaf.new.self) c.requires.accepted
    (nonzero-is_positive _ (sym c.if-is_empty.false ∙ c.is_empty.ensures))
    c.begin_leaf.ensures.shared
    c.begin_leaf.ensures.count

pub returns-clause-digests : goal.returns-clause-digests
returns-clause-digests c =
    let begun = c.begin_leaf.ensures in
    let given = c.close_given.ensures in
    HasAbsorbedDigests-after_closed_leaf (state_tree c.begin_leaf.new.self)
    (nonzero-is_positive _ (sym c.if-is_empty.false ∙ c.is_empty.ensures)) begun.root begun.closed
    begun.shared begun.count given.root given.shared given.count c.update-2.ensures.taken

pub returns-clause-taken : goal.returns-clause-taken
returns-clause-taken c = λ opened.
    let begun = c.begin_leaf.ensures in
    let given = c.close_given.ensures in
    HasAbsorbedLeaves-after_closed_leaf (state_tree c.begin_leaf.new.self)
    c.requires.ready.lengths.some
    c.requires.accepted (nonzero-is_positive _ (sym c.if-is_empty.false ∙ c.is_empty.ensures))
    begun.future
    begun.closed begun.shared begun.count (given.future (begun.begun opened)) given.shared
    given.count c.update-2.ensures.taken
