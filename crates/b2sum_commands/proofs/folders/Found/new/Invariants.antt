use Rattle.std.proofs.Common.{◌≡◌, take}
use Rattle.b2sum_commands.proofs.DoneInTurn.{items_of}
use Rattle.b2sum_commands.proofs.folders.Found.new.Given as goal

abbrev pub invariant-loop-name : goal.invariant-loop-name
invariant-loop-name l = items_of l.folders.items ≡ items_of (take l.name-index l.given)
