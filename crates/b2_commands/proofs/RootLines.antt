-- How `root` ends, once the lines of its input are read.
use Rattle.std.proofs.Common.{◌≡◌, ℕ, Bool, false, List, Option, Some, None, Result, Ok, Err}
use Rattle.std.proofs.Common.{IfSome, arith}
use Rattle.std.proofs.lemmas.Grind.{common_steps}
use Rattle.std.specs.Prelude.{◌↔◌, IsErrOf, IsOkUnless, IsTrue, OnOk}
use Rattle.std.specs.Io.KnownBytes.{Appends}
use Rattle.blake2.specs.Streams.{line_of}
use Rattle.b2_commands.specs.declared.fault.Fault.{Fault}
use Rattle.b2_commands.specs.declared.fault.Fault.TheVariants.{WriteFailed}
use Rattle.b2_commands.specs.ArgumentTasks.{GivenOptions, Kind}
use Rattle.b2_commands.specs.ArgumentTasks.Task.{to_root}
use Rattle.b2_commands.specs.LeafDigests.{read_digests}
use Rattle.b2_commands.specs.TaskEnds.{EndsTask}
use Rattle.b2_commands.specs.Tasks.{IsDone, IsRefusedByTree, root_over_digests_with}

-- The root over the digests that a source had left is printed.
IsDone-to_root : (kind : Kind) (leaf_length : ℕ) (given : GivenOptions) (text digests : List ℕ)
    (left old new : Option (List ℕ)) → (IsRefusedByTree given → ⊥)
    → IfSome left (λ all. text ≡ all) → read_digests text ≡ Ok digests
    → Appends old new (line_of (root_over_digests_with kind.bytes leaf_length given digests))
    → IsDone (to_root kind leaf_length given) left old new
IsDone-to_root kind leaf_length given text digests None old new allowed whole is line =
    record { not_refused = allowed; accepted = tt; fits = tt; output = tt }
IsDone-to_root kind leaf_length given text digests (Some all) old new allowed whole is line =
    let read : read_digests all ≡ Ok digests = rw (← whole) is in
    record {
      not_refused = allowed;
      accepted = λ no. no;
      fits = λ long. long;
      output = rw read line;
    }

pub EndsTask-to_root : (kind : Kind) (leaf_length : ℕ) (given : GivenOptions)
    (text digests : List ℕ)
    (result : Result (Unit {0}) Fault) (left old new : Option (List ℕ)) (write_failed : Bool)
    → (IsRefusedByTree given → ⊥)
    → IfSome left (λ all. text ≡ all) → read_digests text ≡ Ok digests
    → (IsErrOf result WriteFailed ↔ IsTrue write_failed)
    → IsOkUnless result WriteFailed
    → OnOk result (Appends old new
    (line_of (root_over_digests_with kind.bytes leaf_length given digests)))
    → EndsTask (to_root kind leaf_length given) result left false write_failed old new
EndsTask-to_root kind leaf_length given text digests (Ok _) left old new failed allowed whole is
    write fault
    line =
    record {
      read = grind (arith, common_steps);
      write = write;
      done = IsDone-to_root kind leaf_length given text digests left old new allowed whole is line;
      cause = tt;
      unprinted = tt;
    }
EndsTask-to_root kind leaf_length given text digests (Err fault) left old new failed allowed whole
    is write
    end line =
    grind (arith, common_steps)
