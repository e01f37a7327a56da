-- The stop of a part of a command line is that of the whole.
use Rattle.std.proofs.Common.{◌≡◌, ℕ, true, false, List, Result, Ok, Err, IfErr, Option, None, Bool}
use Rattle.std.proofs.Common.{inl, inr}
use Rattle.std.proofs.Common.{Vec, Global, map}
use Rattle.std.specs.Option.{option_map}
use Rattle.std.proofs.Common.{refl, ap, sym, subst, ◌∙◌, drop, codes, nat_eq}
use Rattle.std.specs.List.{starts_with}
use Rattle.std.specs.Str.{bytes_eq}
use Rattle.b2sum_commands.specs.declared.options.Stop.{Stop}
use Rattle.b2sum_commands.specs.declared.options.Stop.TheVariants.{Help, Version, Usage, Value}
use Rattle.b2sum_commands.specs.declared.options.Stop.TheVariants.{NoMemory}
use Rattle.b2sum_commands.specs.CommandLine.{Choice, Next, CommandLineState, End, Helped, Versioned}
use Rattle.b2sum_commands.specs.CommandLine.{Refused}
use Rattle.b2sum_commands.specs.CommandLine.{state_after_option, read_option_or_file}
use Rattle.b2sum_commands.specs.CommandLine.{read_long_option}
use Rattle.b2sum_commands.specs.CommandLine.{read_letters}
use Rattle.b2sum_commands.specs.World.{Streams}
use Rattle.b2sum_commands.specs.CommandLineViews.{StopMatchesResult, StopIsPrinted}
use Rattle.b2sum_commands.specs.World.{World}
use Rattle.b2sum_commands.specs.ProgramRuns.{DoesCommandLine, DoesTaskOrNotBegun}
use Rattle.b2sum_commands.specs.AcceptedOptions.{ArgumentsMatchWords, OptionsMatchChoice}
use Rattle.b2sum_commands.specs.AcceptedOptions.{parsed_command_line}
use Rattle.b2sum_commands.specs.declared.options.Arguments.{Arguments}

-- A stop goes on through what keeps each end.
pub stop_matches-through_map : {A B : Type 0} (f : Result A End → Result B End)
    → ((e : End) → f (Err e) ≡ Err e) → (r : Result A End) (stop : Stop)
    → StopMatchesResult r stop → StopMatchesResult (f r) stop
stop_matches-through_map f keeps r Help h = ap f h ∙ keeps Helped
stop_matches-through_map f keeps r Version h = ap f h ∙ keeps Versioned
stop_matches-through_map f keeps r (Usage line) h = ap f h ∙ keeps Refused
stop_matches-through_map f keeps r (Value first second) h = ap f h ∙ keeps Refused
stop_matches-through_map f keeps r NoMemory h = tt

-- The stop of an option.
pub stop_matches-state_after_option : {A : Type 0} (s : CommandLineState)
    (r : Result (Choice × Next) End)
    (result : Result A Stop) → IfErr result (StopMatchesResult r)
    → IfErr result (StopMatchesResult (state_after_option s r))
stop_matches-state_after_option s r (Ok x) h = tt
stop_matches-state_after_option s r (Err stop) h = stop_matches-through_map (state_after_option s)
    (λ e. refl) r stop h

-- The stop of an option with two hyphens.
pub stop_matches-long_option : {A : Type 0} (s : CommandLineState) (word rest : List ℕ)
    (result : Result A Stop)
    → bytes_eq word (codes "--") ≡ false → starts_with nat_eq word (codes "--") ≡ true
    → rest ≡ drop 2 word → IfErr result (StopMatchesResult (read_long_option s.choice rest))
    → IfErr result (StopMatchesResult (read_option_or_file s word))
stop_matches-long_option s word rest result whole front is h =
    rw whole (rw front
    (stop_matches-state_after_option s (read_long_option s.choice (drop 2 word)) result
    (rw (sym is) h)))

-- The stop of letters.
pub stop_matches-short_options : {A : Type 0} (s : CommandLineState) (word rest : List ℕ)
    (result : Result A Stop)
    → bytes_eq word (codes "--") ≡ false → starts_with nat_eq word (codes "--") ≡ false
    → starts_with nat_eq word (codes "-") ≡ true → bytes_eq word (codes "-") ≡ false
    → rest ≡ drop 1 word → IfErr result (StopMatchesResult (read_letters s.choice rest))
    → IfErr result (StopMatchesResult (read_option_or_file s word))
stop_matches-short_options s word rest result whole front first alone is h =
    rw whole (rw front (rw first (rw alone
    (stop_matches-state_after_option s (read_letters s.choice (drop 1 word)) result
    (rw (sym is) h)))))

-- An error that comes before all else ends what any command line means.
pub command_line-none_if_unchanged : (w : World) (help version : List ℕ)
    (r : Result (Choice × List (List ℕ)) End) (old new : Streams) → new ≡ old
    → DoesCommandLine w help version r old new None
command_line-none_if_unchanged w help version (Ok read) old new none = inr
    (ap (λ (s : Streams). s.held) none)
command_line-none_if_unchanged w help version (Err Helped) old new none = inl
    (ap (λ (s : Streams). s.held) none)
command_line-none_if_unchanged w help version (Err Versioned) old new none = inl
    (ap (λ (s : Streams). s.held) none)
command_line-none_if_unchanged w help version (Err Refused) old new none = none

no_memory : (w : World) (help version : List ℕ) (r : Result (Choice × List (List ℕ)) End)
    (old new : Streams) (end : Option Bool) → end ≡ None → new ≡ old
    → DoesCommandLine w help version r old new end
no_memory w help version r old new end is none =
    subst (DoesCommandLine w help version r old new) (sym is)
    (command_line-none_if_unchanged w help version r old new none)

-- A stop prints what the command line means.
pub stop_printed-does_command_line : (w : World) (help version : List ℕ)
    (r : Result (Choice × List (List ℕ)) End)
    (old new : Streams) (stop : Stop) (end : Option Bool) → StopMatchesResult r stop
    → StopIsPrinted w help version old new stop end → DoesCommandLine w help version r old new end
stop_printed-does_command_line w help version r old new Help end by is =
    subst (λ r. DoesCommandLine w help version r old new end) (sym by) is
stop_printed-does_command_line w help version r old new Version end by is =
    subst (λ r. DoesCommandLine w help version r old new end) (sym by) is
stop_printed-does_command_line w help version r old new (Usage line) end by is =
    subst (λ r. DoesCommandLine w help version r old new end) (sym by) is
stop_printed-does_command_line w help version r old new (Value first second) end by is =
    subst (λ r. DoesCommandLine w help version r old new end) (sym by) is
stop_printed-does_command_line w help version r old new NoMemory end by is =
    no_memory w help version r old new end is.0 is.1

-- The task of arguments is that of the command line.
pub arguments_done-does_command_line : (w : World) (help version : List ℕ) (words : List (List ℕ))
    (a : Arguments)
    (old new : Streams) (end : Option Bool) → ArgumentsMatchWords words a
    → ((c : Choice) → OptionsMatchChoice c a.options
    → option_map (λ (name : Vec ℕ Global). name.items) a.key_file ≡ c.key_file
    → DoesTaskOrNotBegun w c (map (λ (name : Vec ℕ Global). name.items) a.files.items) old new end)
    → DoesCommandLine w help version (parsed_command_line words) old new end
arguments_done-does_command_line w help version words a old new end are does =
    subst (λ r. DoesCommandLine w help version r old new end) (sym are.meaning)
    (does are.choice are.options are.key_file)
