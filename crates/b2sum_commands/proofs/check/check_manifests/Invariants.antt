use Rattle.std.proofs.Common.{◌≡◌, Bool, List, drop}
use Rattle.std.specs.List.{list_all}
use Rattle.b2sum_commands.specs.World.{world_of, EndsWithResult}
use Rattle.b2sum_commands.specs.SealedLists.{FileIsCheckedByOptions}
use Rattle.b2sum_commands.proofs.DoneInTurn.{DoneSoFar, items_of}
use Rattle.b2sum_commands.proofs.check.check_manifests.Given as goal

abbrev pub invariant-loop-name : goal.invariant-loop-name
invariant-loop-name g l =
    (each : List Bool)
    × DoneSoFar (EndsWithResult (FileIsCheckedByOptions (world_of l.host.program.name.items
    g.D.File.OpenFile.named g.D.File.OpenFile.failed
    g.D.File.OpenFile.failure (g.D.Disk.files l.host.disk) g.H.Hashes.hashing) l.options)) (items_of l.names) l.fn.session
    (items_of (drop l.name-index l.names)) l.session each
    × (l.all_hold ≡ list_all (λ well. well) each)
