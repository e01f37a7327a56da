-- What a script returns, by the calls that the program has read.
use Rattle.std.proofs.Common.{◌≡◌, ℕ, ◌+◌, List, [], ◌∷◌, map, Option, Some, None, Result, Ok, Err}
use Rattle.std.proofs.Common.{◌⊎◌, inl, inr, IfSome, refl, ap, ◌∙◌}
use Rattle.std.specs.Prelude.{IsOkUnless, OnOk}
use Rattle.std.specs.List.{flat_map}
use Rattle.std.specs.Io.KnownBytes.{Appends, Keeps}
use Rattle.blake2.specs.Play.{Slots, Outcome, after, followed_by, play_call, play_from, play_fresh}
use Rattle.blake2.specs.Play.{fresh_meaning}
use Rattle.blake2_replay.specs.declared.calls.Call.{Call}
use Rattle.blake2_replay.specs.declared.calls.Call.TheVariants.{Update, Clone, Reset, Finalize}
use Rattle.blake2_replay.specs.declared.calls.Call.TheVariants.{FinalizeReset}
use Rattle.blake2_replay.specs.declared.calls.ReplayFault.{ReplayFault}
use Rattle.blake2_replay.specs.declared.calls.ReplayFault.TheVariants.{NoSuchSlot, TooLong, Memory}
use Rattle.blake2.specs.Streams.{line_of}
use Rattle.b2_commands.specs.declared.fault.Fault.{Fault}
use Rattle.b2_commands.specs.declared.fault.Fault.TheVariants.{WriteFailed}
use Rattle.b2_commands.specs.TaskEnds.{EndsByPrintingDigests}
use Rattle.b2_commands.specs.ReadScripts.{without_address}
use Rattle.b2_commands.specs.Scripts.{fault_of_calls, script_calls, script_digests}

-- A call does the same whatever the address of its bytes.
play_call-without_address : (digest : List ℕ → List ℕ) (n : ℕ) (slots : Slots) (i : ℕ) (call : Call)
    → play_call (fresh_meaning digest n) tt slots i (without_address call)
    ≡ play_call (fresh_meaning digest n) tt slots i call
play_call-without_address digest n slots i (Update k x) = refl
play_call-without_address digest n slots i (Clone k) = refl
play_call-without_address digest n slots i (Reset k) = refl
play_call-without_address digest n slots i (Finalize k) = refl
play_call-without_address digest n slots i (FinalizeReset k) = refl

-- What follows what a call leaves is the same too.
followed_by-congruent : (played : Result Outcome ReplayFault)
    (f g : Slots → Result (List (List ℕ)) ReplayFault)
    → ((slots : Slots) → f slots ≡ g slots) → followed_by played f ≡ followed_by played g
followed_by-congruent (Ok left) f g same = ap (after left.digests) (same left.slots)
followed_by-congruent (Err fault) f g same = refl

-- So are the calls of a list.
play_from-without_address : (digest : List ℕ → List ℕ) (n : ℕ) (calls : List Call) (slots : Slots)
    (i : ℕ)
    → play_from (fresh_meaning digest n) tt (map without_address calls) slots i
    ≡ play_from (fresh_meaning digest n) tt calls slots i
play_from-without_address digest n [] slots i = refl
play_from-without_address digest n (call ∷ calls) slots i =
    ap (λ (played : Result Outcome ReplayFault). followed_by played
    (λ next. play_from (fresh_meaning digest n) tt (map without_address calls) next (i + 1)))
    (play_call-without_address digest n slots i call)
    ∙ followed_by-congruent (play_call (fresh_meaning digest n) tt slots i call) _ _
    (λ next. play_from-without_address digest n calls next (i + 1))

-- The digests of a script are those of the calls that were read.
pub script_digests-ok_if_played : (digest : List ℕ → List ℕ) (n : ℕ) (text : List ℕ)
    (read calls : List Call)
    (digests : List (List ℕ)) → script_calls text ≡ Ok read → map without_address calls ≡ read
    → play_fresh digest n calls ≡ Ok digests
    → script_digests digest n text ≡ Ok digests
script_digests-ok_if_played digest n text read calls digests is same plays =
    let played : play_fresh digest n read ≡ Ok digests =
    rw (← same) (play_from-without_address digest n calls _ 0 ∙ plays) in
    rw (is, played) refl

-- The error of a script is that of the calls that were read.
pub script_digests-err_if_played : (digest : List ℕ → List ℕ) (n : ℕ) (text : List ℕ)
    (read calls : List Call)
    (fault : ReplayFault) → script_calls text ≡ Ok read → map without_address calls ≡ read
    → play_fresh digest n calls ≡ Err fault
    → script_digests digest n text ≡ Err (fault_of_calls fault)
script_digests-err_if_played digest n text read calls fault is same plays =
    let played : play_fresh digest n read ≡ Err fault =
    rw (← same) (play_from-without_address digest n calls _ 0 ∙ plays) in
    rw (is, played) refl

-- The digests of what a source had left are printed.
pub EndsByPrintingDigests-ok : (answer : List ℕ → Result (List (List ℕ)) Fault) (text : List ℕ)
    (digests : List (List ℕ)) (result : Result (Unit {0}) Fault) (left old new : Option (List ℕ))
    → IfSome left (λ all. text ≡ all) → answer text ≡ Ok digests
    → IsOkUnless result WriteFailed → OnOk result (Appends old new (flat_map line_of digests))
    → EndsByPrintingDigests answer result left old new
EndsByPrintingDigests-ok answer text digests (Ok _) None old new whole is fault lines = tt
EndsByPrintingDigests-ok answer text digests (Ok _) (Some all) old new whole is fault lines =
    let answers : answer all ≡ Ok digests = rw (← whole) is in
    rw answers lines
EndsByPrintingDigests-ok answer text digests (Err other) left old new whole is fault lines =
    rw fault tt

-- An error of the script is one of what a source had left.
script_fault-for_source : (answer : List ℕ → Result (List (List ℕ)) Fault) (text : List ℕ)
    (left : Option (List ℕ))
    (fault : Fault) → IfSome left (λ all. text ≡ all) → answer text ≡ Err fault
    → IfSome left (λ all. answer all ≡ Err fault)
script_fault-for_source answer text None fault whole is = tt
script_fault-for_source answer text (Some all) fault whole is = rw (← whole) is

-- A list of calls with an error is a script with that error.
pub EndsByPrintingDigests-err : (digest : List ℕ → List ℕ) (n : ℕ) (text : List ℕ)
    (read calls : List Call)
    (fault : ReplayFault) (left old new : Option (List ℕ)) → IfSome left (λ all. text ≡ all)
    → script_calls text ≡ Ok read → map without_address calls ≡ read
    → (fault ≡ Memory) ⊎ (play_fresh digest n calls ≡ Err fault) → Keeps old new
    → EndsByPrintingDigests (script_digests digest n) (Err (fault_of_calls fault)) left old new
EndsByPrintingDigests-err digest n text read calls Memory left old new whole is same why keeps =
    keeps
EndsByPrintingDigests-err digest n text read calls (NoSuchSlot i) left old new whole is same
    (inl memory) keeps = cc
EndsByPrintingDigests-err digest n text read calls (NoSuchSlot i) left old new whole is same
    (inr plays) keeps = (
      script_fault-for_source (script_digests digest n) text left _ whole
          (script_digests-err_if_played digest n text read calls (NoSuchSlot i) is same plays),
      keeps,
    )
EndsByPrintingDigests-err digest n text read calls (TooLong i) left old new whole is same
    (inl memory) keeps = cc
EndsByPrintingDigests-err digest n text read calls (TooLong i) left old new whole is same
    (inr plays) keeps = (
      script_fault-for_source (script_digests digest n) text left _ whole
          (script_digests-err_if_played digest n text read calls (TooLong i) is same plays),
      keeps,
    )
