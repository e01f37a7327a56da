use Rattle.std.proofs.Common.{◌≡◌, ℕ, ◌-◌, ◌^◌, false, List, length}
use Rattle.std.specs.Io.KnownBytes.{Consumes}
use Rattle.blake2_tree.specs.TreeHashers.{count, HasAbsorbed}
use Rattle.b2_commands.proofs.tree.absorb_source.Given as goal

-- The hasher has absorbed what the source returned.
abbrev pub invariant-pieces : goal.invariant-pieces
invariant-pieces g l = record {
  unfailed : g.S.Source.failed l.source ≡ false;
  size : length l.buffer ≡ length l.fn.buffer;
  taken : (bytes : List ℕ) × Consumes (g.S.Source.left l.fn.source) (g.S.Source.left l.source) bytes
      × HasAbsorbed l.fn.hasher bytes l.hasher;
}

abbrev pub decreases-pieces : goal.decreases-pieces
decreases-pieces g l = 2 ^ 58 - count l.hasher
