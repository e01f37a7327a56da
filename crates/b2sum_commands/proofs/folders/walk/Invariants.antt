use Rattle.std.proofs.Common.{◌≡◌, ℕ, List, Option}
use Rattle.b2sum_commands.proofs.DoneInTurn.{items_of}
use Rattle.b2sum_commands.proofs.WalkedFolders.{FoldersAreWalkedTo}
use Rattle.b2sum_commands.specs.World.{world_of}
use Rattle.b2sum_commands.proofs.folders.walk.Given as goal

abbrev pub invariant-loop-at : goal.invariant-loop-at
invariant-loop-at g l = record {
  walked : (lists : List (Option (List ℕ)))
      × FoldersAreWalkedTo (world_of l.host.program.name.items g.D.File.OpenFile.named
      g.D.File.OpenFile.failed g.D.File.OpenFile.failure (g.D.Disk.files l.host.disk)
      g.H.Hashes.hashing) (items_of l.given) l.fn.session l.session
      (items_of l.found.folders.items) (items_of l.found.files.items)
      (items_of l.found.others.items) l.at lists l.are_listed;
  held : l.session.held ≡ l.fn.session.held;
}
