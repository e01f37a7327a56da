-- The check that a list names all that is in folders.
use Rattle.std.specs.Prelude.{◌≡◌, ◌&&◌, Bool, true, not, List, [], ◌∷◌, ◌++◌, codes, ℕ}
use Rattle.std.specs.Prelude.{Option, Some, None}
use Rattle.std.specs.List.{list_all, list_any}
use Rattle.std.specs.Str.{bytes_eq}
use Rattle.std.specs.Option.{option_and_then, option_map}
use Rattle.b2sum_lines.specs.ManifestLines.{line_entry}
use Rattle.b2sum_lines.specs.declared.entry.Spacing.{Spacing}
use Rattle.b2sum_commands.specs.declared.options.Options.{Options}
use Rattle.b2sum_commands.specs.Folders.{IsSortedPermutation, FoldersAreWalked}
use Rattle.b2sum_commands.specs.Manifests.{item, prints_nothing, spacing_after_line}
use Rattle.b2sum_commands.specs.Manifests.{line_content_unless_comment}
use Rattle.b2sum_commands.specs.Messages.{Cannot, message_if}
use Rattle.b2sum_commands.specs.World.{AreDoneInTurn, OnlyTells, Streams, TellsText, World}

-- The name of the entry of a line, if it has one, also if that needs other options.
abbrev pub entry_name_of_line : Options → Spacing → List ℕ → Option (List ℕ)
entry_name_of_line o spacing line = option_map (λ e. e.name)
    (option_and_then (line_entry o.algorithm spacing) (line_content_unless_comment line))

-- The name, if there is one.
abbrev pub name_as_list : Option (List ℕ) → List (List ℕ)
name_as_list None = []
name_as_list (Some name) = name ∷ []

-- The names of the entries of lines, before which this is the spacing.
abbrev pub entry_names_of_lines : Options → Bool → Spacing → List (List ℕ) → List (List ℕ)
entry_names_of_lines o input spacing [] = []
entry_names_of_lines o input spacing (line ∷ lines) = name_as_list
    (entry_name_of_line o spacing line)
    ++ entry_names_of_lines o input (spacing_after_line spacing (item o input spacing line)) lines

-- One of the names is this.
abbrev pub has_name : List (List ℕ) → List ℕ → Bool
has_name names name = list_any (λ n. bytes_eq n name) names

-- A name is looked for in those of a list. If it is not there, a message says so, unless the
-- options want none.
abbrev pub NameIsLookedUp : World → Options → List (List ℕ) → List ℕ → Streams → Streams → Bool
    → Type 0
NameIsLookedUp w o names name old new is = (is ≡ has_name names name)
    × OnlyTells old new
    × TellsText old new (message_if (not is && not (prints_nothing o.report)) w.program
    (Cannot name (codes "is not in the list")))

-- All that is in these folders and below is looked for, in the order of the names. The result is
-- whether each folder has a list, and each name is there.
pub record FolderFilesAreLookedUp (w : World) (o : Options) (folders names : List (List ℕ))
    (old new : Streams) (all : Bool) : Type 0 where
  pub files : List (List ℕ)
  pub others : List (List ℕ)
  pub are_listed : Bool
  pub walked : Streams
  pub are_walked : FoldersAreWalked w folders old walked files others are_listed
  pub things : List (List ℕ)
  pub are_things : IsSortedPermutation (files ++ others) things
  pub each : List Bool
  pub are_looked_for : AreDoneInTurn (NameIsLookedUp w o names) things walked new each
  pub are_all : all ≡ (are_listed && list_all (λ is. is) each)

-- If there are folders, all that is in them and below is looked for.
abbrev pub FoldersAreComparedIfAny : World → Options → List (List ℕ) → List (List ℕ) → Streams
    → Streams → Bool
    → Type 0
FoldersAreComparedIfAny w o [] names old new all = (new ≡ old) × (all ≡ true)
FoldersAreComparedIfAny w o (folder ∷ folders) names old new all =
    FolderFilesAreLookedUp w o (folder ∷ folders) names old new all
