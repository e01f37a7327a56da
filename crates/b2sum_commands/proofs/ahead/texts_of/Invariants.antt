use Rattle.std.proofs.Common.{◌≡◌, map, take}
use Rattle.b2sum_commands.specs.ReadAhead.{bytes_of_part}
use Rattle.b2sum_commands.proofs.ahead.texts_of.Given as goal

abbrev pub invariant-loop-part : goal.invariant-loop-part
invariant-loop-part l =
    map (λ t. t.now) l.texts.items ≡ map (bytes_of_part l.room) (take l.part-index l.parts)
