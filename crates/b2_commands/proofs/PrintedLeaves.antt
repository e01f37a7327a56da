-- How `leaves` ends, once the digests of a part are made.
use Rattle.std.proofs.Common.{◌≡◌, ℕ, Bool, false, List, length, Option, Some, None, Result, Ok}
use Rattle.std.proofs.Common.{Err}
use Rattle.std.proofs.Common.{IfSome, subst, ap, ◌∙◌, arith}
use Rattle.std.proofs.lemmas.Grind.{common_steps}
use Rattle.std.specs.Prelude.{◌↔◌, IsErrOf, IsOkUnless, IsTrue, OnOk}
use Rattle.std.specs.Io.KnownBytes.{Appends}
use Rattle.blake2_tree.specs.LeafRanges.{IsLeafRange, range_digests}
use Rattle.b2_commands.specs.declared.fault.Fault.{Fault}
use Rattle.b2_commands.specs.declared.fault.Fault.TheVariants.{WriteFailed}
use Rattle.b2_commands.specs.ArgumentTasks.{GivenOptions}
use Rattle.b2_commands.specs.ArgumentTasks.Task.{to_leaves}
use Rattle.b2_commands.specs.LeafDigests.{digest_lines}
use Rattle.b2_commands.specs.TaskEnds.{EndsTask}
use Rattle.b2_commands.specs.Tasks.{IsDone, IsRefusedByTree, tree_with}

-- The digests of a part that a source had left are printed.
IsDone-to_leaves : (leaf_length first : ℕ) (ends : Bool) (given : GivenOptions)
    (bytes digests : List ℕ)
    (left old new : Option (List ℕ)) → (IsRefusedByTree given → ⊥)
    → IfSome left (λ all. bytes ≡ all)
    → ((IsLeafRange leaf_length first ends (length bytes) → ⊥) → ⊥)
    → digests ≡ range_digests (tree_with leaf_length given) first ends bytes
    → Appends old new (digest_lines digests)
    → IsDone (to_leaves leaf_length first ends given) left old new
IsDone-to_leaves leaf_length first ends given bytes digests None old new allowed whole range are
    lines =
    record { not_refused = allowed; accepted = tt; fits = tt; output = tt }
IsDone-to_leaves leaf_length first ends given bytes digests (Some all) old new allowed whole range
    are
    lines =
    record {
      not_refused = allowed;
      accepted = λ no. range (λ is. no (subst
          (λ (l : List ℕ). IsLeafRange leaf_length first ends (length l))
          whole is));
      fits = λ long. long;
      output = subst (λ (d : List ℕ). Appends old new (digest_lines d))
          (are ∙ ap (range_digests (tree_with leaf_length given) first ends) whole) lines;
    }

pub EndsTask-to_leaves : (leaf_length first : ℕ) (ends : Bool) (given : GivenOptions)
    (bytes digests : List ℕ)
    (result : Result (Unit {0}) Fault) (left old new : Option (List ℕ)) (write_failed : Bool)
    → (IsRefusedByTree given → ⊥)
    → IfSome left (λ all. bytes ≡ all)
    → ((IsLeafRange leaf_length first ends (length bytes) → ⊥) → ⊥)
    → digests ≡ range_digests (tree_with leaf_length given) first ends bytes
    → (IsErrOf result WriteFailed ↔ IsTrue write_failed)
    → IsOkUnless result WriteFailed
    → OnOk result (Appends old new (digest_lines digests))
    → EndsTask (to_leaves leaf_length first ends given) result left false write_failed old new
EndsTask-to_leaves leaf_length first ends given bytes digests (Ok _) left old new failed allowed
    whole range
    are write fault lines =
    record {
      read = grind (arith, common_steps);
      write = write;
      done =
          IsDone-to_leaves leaf_length first ends given bytes digests left old new allowed whole range
          are lines;
      cause = tt;
      unprinted = tt;
    }
EndsTask-to_leaves leaf_length first ends given bytes digests (Err fault) left old new failed
    allowed whole
    range are write is lines =
    grind (arith, common_steps)
