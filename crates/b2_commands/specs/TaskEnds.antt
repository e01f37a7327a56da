-- How a task ends, and what it prints of its input.
use Rattle.std.specs.Prelude.{◌≡◌, ◌≢◌, ◌↔◌, ℕ, ◌+◌, ◌<◌, ◌≤◌, ◌^◌, ⊤, Bool, List, length, Option}
use Rattle.std.specs.Prelude.{Result, Ok, Err, IfErr, IfSome, IsErrOf, IsOkAnd, IsTrue, OnOk}
use Rattle.std.specs.List.{flat_map}
use Rattle.std.specs.Io.KnownBytes.{Appends, Keeps}
use Rattle.blake2.specs.Streams.{line_of}
use Rattle.b2_commands.specs.declared.fault.Fault.{Fault}
use Rattle.b2_commands.specs.declared.fault.Fault.TheVariants.{WrongLength, WrongLine, NoSuchSlot}
use Rattle.b2_commands.specs.declared.fault.Fault.TheVariants.{LineTooLong, TooLong, ReadFailed}
use Rattle.b2_commands.specs.declared.fault.Fault.TheVariants.{NoMemory, WriteFailed}
use Rattle.b2_commands.specs.ArgumentTasks.{Task}
use Rattle.b2_commands.specs.Tasks.{IsDone}
use Rattle.b2_commands.specs.Faults.{IsFaultOfTask}

-- How a task ends on what a source had left. The error of a device is returned exactly if the
-- device failed. Otherwise the task is done, or the error is due. After anything is printed, only a
-- write error is returned.
pub record EndsTask (task : Task) (result : Result (Unit {0}) Fault) (left : Option (List ℕ))
    (read_failed write_failed : Bool) (old new : Option (List ℕ)) : Type 0 where
  pub read : IsErrOf result ReadFailed ↔ IsTrue read_failed
  pub write : IsErrOf result WriteFailed ↔ IsTrue write_failed
  pub done : OnOk result (IsDone task left old new)
  pub cause : IfErr result (λ fault. IsFaultOfTask fault task left read_failed)
  pub unprinted : IfErr result (λ fault. fault ≢ WriteFailed → Keeps old new)

-- The output that `text` makes of what a source had left is printed, or an error is returned before
-- anything is printed or at a write. The bytes are counted from `start`.
abbrev pub EndsByPrinting : (List ℕ → List ℕ) → ℕ → Result (Unit {0}) Fault → Option (List ℕ)
    → Option (List ℕ) → Option (List ℕ) → Type 0
EndsByPrinting text start (Ok _) left old new =
    IfSome left (λ bytes. (start + length bytes < 2 ^ 64) × Appends old new (text bytes))
EndsByPrinting text start (Err TooLong) left old new =
    IfSome left (λ bytes. 2 ^ 64 ≤ start + length bytes) × Keeps old new
EndsByPrinting text start (Err WrongLength) left old new = Keeps old new
EndsByPrinting text start (Err ReadFailed) left old new = Keeps old new
EndsByPrinting text start (Err NoMemory) left old new = Keeps old new
EndsByPrinting text start (Err WriteFailed) left old new = ⊤
EndsByPrinting text start (Err fault) left old new = ⊥

-- The script that a source had left has this error, and nothing is printed.
abbrev pub RefusesScript : (List ℕ → Result (List (List ℕ)) Fault) → Fault → Option (List ℕ)
    → Option (List ℕ) → Option (List ℕ) → Type 0
RefusesScript digests fault left old new =
    IfSome left (λ text. digests text ≡ Err fault) × Keeps old new

-- The digests of the script that a source had left are printed, one on each line, or the script has
-- an error, or an error is returned before anything is printed or at a write.
abbrev pub EndsByPrintingDigests : (List ℕ → Result (List (List ℕ)) Fault) → Result (Unit {0}) Fault
    → Option (List ℕ) → Option (List ℕ) → Option (List ℕ) → Type 0
EndsByPrintingDigests digests (Ok _) left old new =
    IfSome left (λ text. IsOkAnd (digests text) (λ ds. Appends old new (flat_map line_of ds)))
EndsByPrintingDigests digests (Err (WrongLine number)) left old new =
    RefusesScript digests (WrongLine number) left old new
EndsByPrintingDigests digests (Err (NoSuchSlot number)) left old new =
    RefusesScript digests (NoSuchSlot number) left old new
EndsByPrintingDigests digests (Err (LineTooLong number)) left old new =
    RefusesScript digests (LineTooLong number) left old new
EndsByPrintingDigests digests (Err WrongLength) left old new = Keeps old new
EndsByPrintingDigests digests (Err ReadFailed) left old new = Keeps old new
EndsByPrintingDigests digests (Err NoMemory) left old new = Keeps old new
EndsByPrintingDigests digests (Err WriteFailed) left old new = ⊤
EndsByPrintingDigests digests (Err fault) left old new = ⊥
