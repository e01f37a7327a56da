-- What the status of a command says about how its task ended.
use Rattle.std.proofs.Common.{◌≡◌, ℕ, ◌<◌, Bool, true, false, List, Option, Result, Ok, Err}
use Rattle.std.proofs.Common.{refl, arith, rules}
use Rattle.std.proofs.lemmas.Grind.{common_steps}
use Rattle.std.specs.Prelude.{◌≢◌, IfErr, IsOkAnd, IsTrue, OnOk}
use Rattle.std.specs.Io.KnownBytes.{Appends}
use Rattle.b2_commands.specs.declared.fault.Fault.{Fault}
use Rattle.b2_commands.specs.ArgumentTasks.{Task, task_of}
use Rattle.b2_commands.specs.Tasks.{IsDone}
use Rattle.b2_commands.specs.Faults.{ReportsFault, exit_status_of, fault_line}
use Rattle.b2_commands.specs.TaskEnds.{EndsTask}

-- A status other than 0, if no write failed: the line of the task's error is printed.
pub ReportsFault-if_status_nonzero : (words : List (List ℕ)) (task : Task)
    (end : Result (Unit {0}) Fault)
    (left rest : Option (List ℕ)) (read_failed write_failed failed : Bool) (status : ℕ)
    (old mid new : Option (List ℕ))
    → task_of words ≡ Ok task
    → EndsTask task end left read_failed write_failed old mid
    → OnOk end (status ≡ 0)
    → IfErr end (λ fault. failed ≡ false →
    (status ≡ exit_status_of fault) × Appends mid new (fault_line fault))
    → (IsTrue write_failed → IsTrue failed)
    → status ≢ 0 → failed ≡ false → ReportsFault words left rest read_failed status old new
ReportsFault-if_status_nonzero words task (Ok _) left rest rf wf failed status old mid new is ends
    done printed stays some
    none =
    grind (arith, common_steps)
ReportsFault-if_status_nonzero words task (Err fault) left rest rf wf failed status old mid new is
    ends done printed stays
    some none =
    grind (arith, common_steps)

-- No error has status 0.
exit_status_of-positive : (fault : Fault) → 0 < exit_status_of fault
exit_status_of-positive fault = grind arith

-- Status 0: the task is done.
pub IsDone-if_status_zero : (words : List (List ℕ)) (task : Task) (end : Result (Unit {0}) Fault)
    (left : Option (List ℕ)) (read_failed write_failed failed : Bool) (status : ℕ)
    (old mid new : Option (List ℕ))
    → task_of words ≡ Ok task
    → EndsTask task end left read_failed write_failed old mid
    → OnOk end (new ≡ mid)
    → IfErr end (λ fault. failed ≡ false →
    (status ≡ exit_status_of fault) × Appends mid new (fault_line fault))
    → (IsTrue failed → status ≡ 1)
    → status ≡ 0 → IsOkAnd (task_of words) (λ named. IsDone named left old new)
IsDone-if_status_zero words task (Ok _) left rf wf failed status old mid new is ends done printed
    told zero =
    rw (is, done) ends.done
IsDone-if_status_zero words task (Err fault) left rf wf true status old mid new is ends done printed
    told zero =
    absurd (omega (arith, zero, told (search rules)))
IsDone-if_status_zero words task (Err fault) left rf wf false status old mid new is ends done
    printed told zero =
    absurd (omega (arith, zero, (printed refl).0, exit_status_of-positive fault))
