-- What the program's values are in the terms of CommandLine.
use Rattle.std.specs.Prelude.{◌≡◌, ⊤, ℕ, Bool, false, List, map, Option, None, Result, Err}
use Rattle.std.specs.Option.{option_map}
use Rattle.b2sum_commands.specs.declared.options.Reader.{Reader}
use Rattle.b2sum_commands.specs.declared.options.Stop as stop
use Rattle.b2sum_commands.specs.declared.options.Stop.TheVariants.{Help, Version, Usage, NoMemory}
use Rattle.b2sum_commands.specs.declared.options.Stop.TheVariants.{Value}
use Rattle.b2sum_commands.specs.declared.options.Next as next
use Rattle.b2sum_commands.specs.declared.options.Next.TheVariants.{Any, Awaited, File}
use Rattle.b2sum_commands.specs.World.{Streams, World}
use Rattle.b2sum_commands.specs.ProgramRuns.{PrintsText, RefusesCommandLine}
use Rattle.b2sum_commands.specs.CommandLine.{Choice, End, Helped, Versioned, Refused}
use Rattle.b2sum_commands.specs.CommandLine.{Next, Anything, ValueOf, OnlyFile, CommandLineState}

-- The choice of the options that are read.
abbrev pub choice_of_reader : Reader → Choice
choice_of_reader r = record {
  algorithm = r.algorithm;
  names_algorithm = r.names_algorithm;
  leaf = r.leaf;
  bits = r.bits;
  key_file = option_map (λ v. v.items) r.key_file;
  key_is_raw = r.key_is_raw;
  key_is_hex = r.key_is_hex;
  context = option_map (λ v. v.items) r.context;
  salt = r.salt.items;
  persona = r.persona.items;
  persona_text = r.persona_text.items;
  folders = map (λ v. v.items) r.folders.items;
  expected = option_map (λ v. v.bytes.items) r.expected;
  checks = r.checks;
  is_binary = r.is_binary;
  is_tagged = r.is_tagged;
  ends_zero = r.ends_zero;
  ignores_missing = r.ignores_missing;
  report = r.report;
  is_strict = r.is_strict;
  threads = r.threads;
  shows_progress = r.shows_progress;
  has_no_names = r.has_no_names;
  is_raw = r.is_raw;
  shows_digests = r.shows_digests;
  seals = r.seals;
  is_sealed = r.is_sealed;
}

-- What the next word is.
abbrev pub next_of : next.Next → Next
next_of Any = Anything
next_of (Awaited flag letter) = ValueOf flag
next_of File = OnlyFile

-- The state of the words that are read.
abbrev pub state_of_reader : Reader → List (List ℕ) → next.Next → CommandLineState
state_of_reader r files n = record { choice = choice_of_reader r; files = files; next = next_of n }

-- The program stops for the reason of the definition, unless an allocation failed.
abbrev pub StopMatchesResult : {A : Type 0} → Result A End → stop.Stop → Type 0
StopMatchesResult r Help = r ≡ Err Helped
StopMatchesResult r Version = r ≡ Err Versioned
StopMatchesResult r (Usage line) = r ≡ Err Refused
StopMatchesResult r (Value first second) = r ≡ Err Refused
StopMatchesResult r NoMemory = ⊤

-- A value is refused, or an allocation failed.
abbrev pub IsRefusalOrNoMemory : stop.Stop → Type 0
IsRefusalOrNoMemory Help = ⊥
IsRefusalOrNoMemory Version = ⊥
IsRefusalOrNoMemory (Usage line) = ⊤
IsRefusalOrNoMemory (Value first second) = ⊤
IsRefusalOrNoMemory NoMemory = ⊤

-- The program stops since there is no value, unless an allocation failed.
abbrev pub StopsSinceNoValue : {A : Type 0} → Option A → stop.Stop → Type 0
StopsSinceNoValue o Help = ⊥
StopsSinceNoValue o Version = ⊥
StopsSinceNoValue o (Usage line) = o ≡ None
StopsSinceNoValue o (Value first second) = o ≡ None
StopsSinceNoValue o NoMemory = ⊤

-- The program stops since the test is false, unless an allocation failed.
abbrev pub StopsSinceTestFails : Bool → stop.Stop → Type 0
StopsSinceTestFails test Help = ⊥
StopsSinceTestFails test Version = ⊥
StopsSinceTestFails test (Usage line) = test ≡ false
StopsSinceTestFails test (Value first second) = test ≡ false
StopsSinceTestFails test NoMemory = ⊤

-- What is printed if the program stops, with whether the command line is right: the help, the
-- version, or only a message. There is no result if an error ended it.
abbrev pub StopIsPrinted : World → List ℕ → List ℕ → Streams → Streams → stop.Stop → Option Bool
    → Type 0
StopIsPrinted w help version old new Help end = PrintsText help old new end
StopIsPrinted w help version old new Version end = PrintsText version old new end
StopIsPrinted w help version old new (Usage line) end = RefusesCommandLine w old new end
StopIsPrinted w help version old new (Value first second) end = RefusesCommandLine w old new end
StopIsPrinted w help version old new NoMemory end = (end ≡ None) × (new ≡ old)
