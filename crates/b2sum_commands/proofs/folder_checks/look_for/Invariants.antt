use Rattle.std.proofs.Common.{◌≡◌, Bool, List, ℕ, drop}
use Rattle.std.specs.List.{list_all}
use Rattle.std.specs.List.Sorted.{IsPermutation}
use Rattle.b2sum_commands.proofs.DoneInTurn.{DoneSoFar, items_of}
use Rattle.b2sum_commands.specs.FolderChecks.{NameIsLookedUp}
use Rattle.b2sum_commands.specs.World.{world_of}
use Rattle.b2sum_commands.proofs.folder_checks.look_for.Given as goal

abbrev pub invariant-loop-thing : goal.invariant-loop-thing
invariant-loop-thing g l = record {
  looked : (all : List (List ℕ)) → IsPermutation all (items_of l.names) → (each : List Bool)
      × DoneSoFar (NameIsLookedUp (world_of l.host.program.name.items
      g.D.File.OpenFile.named g.D.File.OpenFile.failed g.D.File.OpenFile.failure
      (g.D.Disk.files l.host.disk) g.H.Hashes.hashing) l.options all)
      (items_of l.things) l.fn.session (items_of (drop l.thing-index l.things)) l.session each
      × (l.are_there ≡ list_all (λ is. is) each);
  held : l.session.held ≡ l.fn.session.held;
}
