-- Messages, one after the other, and the end of a run.
use Rattle.std.proofs.Common.{◌≡◌, ◌⊎◌, ℕ, Bool, true, false, List, ◌++◌, Option, Some, None, inl}
use Rattle.std.proofs.Common.{inr}
use Rattle.std.proofs.Common.{refl, subst, ◌∙◌, arith, Result, Err}
use Rattle.std.proofs.KnownBytes.{Appends-trans}
use Rattle.std.specs.Io.KnownBytes.{Appends}
use Rattle.std.specs.declared.io.Error.{Error}
use Rattle.b2sum_commands.specs.CommandLine.{Choice, End, Refused}
use Rattle.b2sum_commands.specs.Messages.{Message, NoMemory}
use Rattle.b2sum_commands.specs.ProgramRuns.{DoesCommandLine, RunsCommandLine, RefusesCommandLine}
use Rattle.b2sum_commands.specs.ProgramRuns.{TellsUsageError}
use Rattle.b2sum_commands.specs.ProgramRuns.{exit_status}
use Rattle.b2sum_commands.specs.World.{World, Streams, SinkAcceptsOrFails, RunEndsWithError}
use Rattle.b2sum_commands.specs.World.{IsWriteError, TellsMessage}

two_texts-accepted_in_turn : (b c : Bool) (x y z : Option (List ℕ)) (first second : List ℕ)
    → (b ≡ true → c ≡ true) → (b ≡ true) ⊎ Appends x y first → (c ≡ true) ⊎ Appends y z second
    → (c ≡ true) ⊎ Appends x z (first ++ second)
two_texts-accepted_in_turn b c x y z first second stays p (inl failed) = inl failed
two_texts-accepted_in_turn b c x y z first second stays (inl failed) (inr q) = inl (stays failed)
two_texts-accepted_in_turn b c x y z first second stays (inr p) (inr q) =
    inr (Appends-trans x y z first second p q)

-- Two texts are one.
pub two_texts-written_in_turn : (a b c : Bool) (x y z : Option (List ℕ)) (first second : List ℕ)
    → SinkAcceptsOrFails a b x y first → SinkAcceptsOrFails b c y z second
    → SinkAcceptsOrFails a c x z (first ++ second)
two_texts-written_in_turn a b c x y z first second p q = record {
  stays = λ failed. q.stays (p.stays failed);
  accepted = two_texts-accepted_in_turn b c x y z first second q.stays p.accepted q.accepted;
}

-- A write failed, as the last message says.
pub run_ended-by_failed_write : (w : World) (old new : Streams) (e : Error) → new.output_failed
    ≡ true
    → new.output_error ≡ Some e
    → (said : Message) × IsWriteError w.files e said × TellsMessage w old new said
    → new.held ≡ old.held → RunEndsWithError w old new
run_ended-by_failed_write w old new e failed is told held = record {
  said = told.0;
  cause = inr (failed, e, is, told.1);
  told = told.2;
  held = held;
}

-- An allocation failed, as the last message says.
pub run_ended-by_no_memory : (w : World) (old new : Streams) → TellsMessage w old new NoMemory
    → new.held ≡ old.held → RunEndsWithError w old new
run_ended-by_no_memory w old new told held = record {
  said = NoMemory;
  cause = inl refl;
  told = told;
  held = held;
}

-- What a run promises for its status.
abbrev pub RunHasStatus : World → List ℕ → List ℕ → Result (Choice × List (List ℕ)) End → Streams
    → Streams → ℕ → Type 0
RunHasStatus w help version r old new result =
    (end : Option Bool) × (result ≡ exit_status end) × RunsCommandLine w help version r old new end

-- A run of a command line that is refused has status 1, and prints nothing but a message.
refused_line-has_status_1 : (w : World) (help version : List ℕ)
    (r : Result (Choice × List (List ℕ)) End)
    (old new : Streams) (end : Option Bool) → r ≡ Err Refused
    → RunsCommandLine w help version r old new end
    → (exit_status end ≡ 1) × (new.held ≡ old.held)
    × (TellsUsageError w old new ⊎ RunEndsWithError w old new)
refused_line-has_status_1 w help version r old new (Some true) is runs =
    let does : RefusesCommandLine w old new (Some true) =
    subst (λ r. DoesCommandLine w help version r old new (Some true)) is runs in
    absurd (grind (arith, does.0))
refused_line-has_status_1 w help version r old new (Some false) is runs =
    let does : RefusesCommandLine w old new (Some false) =
    subst (λ r. DoesCommandLine w help version r old new (Some false)) is runs in
    (refl, does.1, inl does.2)
refused_line-has_status_1 w help version r old new None is runs =
    let mid : Streams = runs.0 in
    let same : mid ≡ old = subst (λ r. DoesCommandLine w help version r old mid None) is runs.1 in
    let ended : RunEndsWithError w old new = subst (λ (s : Streams). RunEndsWithError w s new) same
    runs.2 in
    (refl, ended.held, inr ended)

pub refused_run-has_status_1 : (w : World) (help version : List ℕ)
    (r : Result (Choice × List (List ℕ)) End)
    (old new : Streams) (result : ℕ) → RunHasStatus w help version r old new result → r
    ≡ Err Refused
    → (result ≡ 1) × (new.held ≡ old.held)
    × (TellsUsageError w old new ⊎ RunEndsWithError w old new)
refused_run-has_status_1 w help version r old new result has is =
    let told = refused_line-has_status_1 w help version r old new has.0 is has.2 in
    (has.1 ∙ told.0, told.1, told.2)

-- No error ended a run.
pub run_status-without_error : (w : World) (help version : List ℕ)
    (r : Result (Choice × List (List ℕ)) End)
    (old new : Streams) (b well : Bool) (result : ℕ) → b ≡ well → result ≡ exit_status (Some well)
    → DoesCommandLine w help version r old new (Some b)
    → RunHasStatus w help version r old new result
run_status-without_error w help version r old new b well result is status does = (
  Some well,
  status,
  subst (λ (x : Bool). DoesCommandLine w help version r old new (Some x)) is does,
)

-- An error ended a run.
pub run_status-after_error : (w : World) (help version : List ℕ)
    (r : Result (Choice × List (List ℕ)) End)
    (old mid new : Streams) (end : Option Bool) → DoesCommandLine w help version r old mid end → end
    ≡ None
    → RunEndsWithError w mid new → RunHasStatus w help version r old new 1
run_status-after_error w help version r old mid new end does is ended = (
  None,
  refl,
  (mid, subst (DoesCommandLine w help version r old mid) is does, ended),
)
