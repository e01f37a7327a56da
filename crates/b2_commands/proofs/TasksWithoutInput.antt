-- How a task that reads nothing ends.
use Rattle.std.proofs.Common.{◌≡◌, ℕ, Bool, false, List, Option, Some, None, Result, Ok, Err, arith}
use Rattle.std.proofs.lemmas.Grind.{common_steps}
use Rattle.std.specs.Prelude.{◌↔◌, IfSome, IsErrOf, IsOkUnless, IsTrue, OnOk}
use Rattle.b2_commands.specs.declared.fault.Fault.{Fault}
use Rattle.b2_commands.specs.declared.fault.Fault.TheVariants.{WriteFailed}
use Rattle.b2_commands.specs.ArgumentTasks.{Task}
use Rattle.b2_commands.specs.Tasks.{IsRefusedInput, IsRefusedTask, IsTooLongFor, PrintsTaskOutput}
use Rattle.b2_commands.specs.TaskEnds.{EndsTask}

-- What holds of every input holds of that of a source.
pub IfSome-if_for_all : {P : List ℕ → Type 0} (left : Option (List ℕ))
    → ((input : List ℕ) → P input)
    → IfSome left P
IfSome-if_for_all None all = tt
IfSome-if_for_all (Some input) all = all input

pub EndsTask-without_input : (task : Task) (result : Result (Unit {0}) Fault)
    (left : Option (List ℕ))
    (write_failed : Bool) (old new : Option (List ℕ))
    → (IsRefusedTask task → ⊥)
    → ((input : List ℕ) → IsRefusedInput task input → ⊥)
    → ((input : List ℕ) → IsTooLongFor task input → ⊥)
    → (IsErrOf result WriteFailed ↔ IsTrue write_failed)
    → IsOkUnless result WriteFailed
    → OnOk result (PrintsTaskOutput task left old new)
    → EndsTask task result left false write_failed old new
EndsTask-without_input task (Ok _) left failed old new taken key short write fault output = record {
  read = grind (arith, common_steps);
  write = write;
  done = record {
    not_refused = taken;
    accepted = IfSome-if_for_all left key;
    fits = IfSome-if_for_all left short;
    output = output;
  };
  cause = tt;
  unprinted = tt;
}
EndsTask-without_input task (Err fault) left failed old new taken key short write is output =
    grind (arith, common_steps)
