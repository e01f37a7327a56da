-- Tasks that are done by the options of a choice.
use Rattle.std.proofs.Common.{◌≡◌, ℕ, Bool, true, false, List, Option, ap, subst}
use Rattle.b2sum_commands.specs.declared.options.Options.{Options}
use Rattle.b2sum_commands.specs.World.{Streams, World}
use Rattle.b2sum_commands.specs.CommandLine.{Choice}
use Rattle.b2sum_commands.specs.AcceptedOptions.{OptionsMatchChoice}
use Rattle.b2sum_commands.specs.ProgramRuns.{FilesAreCheckedOrPrinted, DoesTask, ChosenKeyIsRead}
use Rattle.b2sum_commands.specs.ProgramRuns.{WarnsIfShortMacs, are_short_macs}

-- A warning prints nothing.
pub mac_warning-prints_nothing : (short : Bool) (program : List ℕ) (old new : Streams)
    → WarnsIfShortMacs short program old new → new.held ≡ old.held
mac_warning-prints_nothing true program old new warns = ap (λ (s : Streams). s.held) warns.0
mac_warning-prints_nothing false program old new same = ap (λ (s : Streams). s.held) same

-- The task of a choice is done.
pub task_done : (w : World) (c : Choice) (o : Options) (names : List (List ℕ))
    (old keyed warned begun new : Streams) (end : Option Bool) → OptionsMatchChoice c o
    → ChosenKeyIsRead w c o old keyed → WarnsIfShortMacs (are_short_macs o) w.program keyed warned
    → begun ≡ warned → FilesAreCheckedOrPrinted o.checks w o names begun new end
    → DoesTask w c names old new end
task_done w c o names old keyed warned begun new end are has warns at done = (
  o,
  are,
  keyed,
  has,
  warned,
  warns,
  subst (λ (s : Streams). FilesAreCheckedOrPrinted o.checks w o names s new end) at done,
)
