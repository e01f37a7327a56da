-- How the printing of a digest, or of the digests of a script, ends its task.
use Rattle.std.proofs.Common.{◌≡◌, ℕ, Bool, List, Option, Result, Ok, Err, arith}
use Rattle.std.proofs.lemmas.Grind.{common_steps}
use Rattle.std.specs.Prelude.{◌↔◌, IsErrOf, IsTrue}
use Rattle.blake2.specs.Family.{Family, blake2b, blake2s}
use Rattle.blake2.specs.MacArguments.{key_count, HasRefusedLength}
use Rattle.blake2.specs.Streams.{line_of}
use Rattle.b2_commands.specs.declared.fault.Fault.{Fault}
use Rattle.b2_commands.specs.declared.fault.Fault.TheVariants.{WrongLength, ReadFailed, NoMemory}
use Rattle.b2_commands.specs.declared.fault.Fault.TheVariants.{WriteFailed}
use Rattle.b2_commands.specs.ArgumentTasks.{GivenOptions, Kind, nothing_given}
use Rattle.b2_commands.specs.ArgumentTasks.Task.{to_sum, to_script}
use Rattle.b2_commands.specs.Scripts.{script_digests}
use Rattle.b2_commands.specs.Tasks.{digest_with, IsRefusedByFamily}
use Rattle.b2_commands.specs.TaskEnds.{EndsTask, EndsByPrinting, EndsByPrintingDigests}

-- If no option is given, none is refused.
pub nothing_given-is_not_refused : (f : Family) → IsRefusedByFamily f nothing_given → ⊥
unfolding HasRefusedLength
nothing_given-is_not_refused blake2b refused = grind arith
nothing_given-is_not_refused blake2s refused = grind arith

pub EndsTask-to_sum : (kind : Kind) (given : GivenOptions) (result : Result (Unit {0}) Fault)
    (left : Option (List ℕ)) (read_failed write_failed : Bool) (old new : Option (List ℕ))
    → (IsRefusedByFamily kind.family given → ⊥)
    → (result ≡ Err WrongLength → ⊥)
    → (IsErrOf result ReadFailed ↔ IsTrue read_failed)
    → (IsErrOf result WriteFailed ↔ IsTrue write_failed)
    → (result ≡ Err NoMemory → ⊥)
    → EndsByPrinting (λ message. line_of (digest_with kind.family kind.bytes given message))
    (key_count kind.family given.key) result left old new
    → EndsTask (to_sum kind given) result left read_failed write_failed old new
EndsTask-to_sum kind given result left rf wf old new taken length read write memory ends =
    grind (arith, common_steps)

pub EndsTask-to_script : (kind : Kind) (given : GivenOptions) (result : Result (Unit {0}) Fault)
    (left : Option (List ℕ)) (read_failed write_failed : Bool) (old new : Option (List ℕ))
    → (IsRefusedByFamily kind.family given → ⊥)
    → (result ≡ Err WrongLength → ⊥)
    → (IsErrOf result ReadFailed ↔ IsTrue read_failed)
    → (IsErrOf result WriteFailed ↔ IsTrue write_failed)
    → EndsByPrintingDigests (script_digests (digest_with kind.family kind.bytes given)
    (key_count kind.family given.key)) result left old new
    → EndsTask (to_script kind given) result left read_failed write_failed old new
EndsTask-to_script kind given (Ok _) left rf wf old new taken length read write ends =
    grind (arith, common_steps)
EndsTask-to_script kind given (Err fault) left rf wf old new taken length read write ends =
    grind (arith, common_steps)
