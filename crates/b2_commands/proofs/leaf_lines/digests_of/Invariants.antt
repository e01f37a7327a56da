use Rattle.std.proofs.Common.{◌≡◌, ◌+◌, ◌/◌, length}
use Rattle.text_lines.specs.Cuts.{lines_of}
use Rattle.b2_commands.specs.LeafDigests.{digests_of_lines, read_digests}
use Rattle.b2_commands.proofs.LeafLines.{prepend_digests}
use Rattle.b2_commands.proofs.leaf_lines.digests_of.Given as goal

abbrev pub invariant-lines : goal.invariant-lines
invariant-lines l =
    read_digests l.text ≡ prepend_digests l.digests.items
    (digests_of_lines (length l.digests.items / 64 + 1) (lines_of l.rest))

abbrev pub decreases-lines : goal.decreases-lines
decreases-lines l = length l.rest
