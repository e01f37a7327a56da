-- The law that `root` reads what `leaves` prints.
use Rattle.std.specs.Prelude.{◌≡◌, ℕ, ◌+◌, ◌/◌, ◌<◌, true, false, List, [], ◌∷◌, ◌++◌, length}
use Rattle.std.specs.Prelude.{IsOkAnd}
use Rattle.std.specs.List.{concat}
use Rattle.blake2_tree.specs.TreeRoot.{TreeParameters}
use Rattle.blake2_tree.specs.LeafRanges.{IsCutAtLeafBoundaries, range_digests}
use Rattle.b2_commands.specs.ArgumentTasks.{GivenOptions}
use Rattle.b2_commands.specs.LeafDigests.{digest_lines, read_digests}
use Rattle.b2_commands.specs.Tasks.{root_over_digests_with, root_with, tree_with}

-- The lines that `leaves` prints for the parts of a message, one after the other. Each part begins
-- at the leaf at which the one before it ends, and the last one ends the message.
abbrev pub part_lines : TreeParameters → ℕ → List (List ℕ) → List ℕ → List ℕ
part_lines p first [] last = digest_lines (range_digests p first true last)
part_lines p first (x ∷ front) last =
    digest_lines (range_digests p first false x)
    ++ part_lines p (first + length x / p.leaf_length) front last

-- For a message that is cut into parts at boundaries of its leaves, `root` reads these lines, and
-- prints what `tree` prints for the message.
abbrev pub RootReadsLeaves : Type 0
RootReadsLeaves = (n leaf_length : ℕ) (given : GivenOptions) (front : List (List ℕ)) (last : List ℕ)
    → 0 < leaf_length → IsCutAtLeafBoundaries leaf_length front last
    → IsOkAnd (read_digests (part_lines (tree_with leaf_length given) 0 front last))
    (λ digests. root_over_digests_with n leaf_length given digests
    ≡ root_with n leaf_length given (concat front ++ last))
