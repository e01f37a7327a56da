-- Names that are looked for in those of a list.
use Rattle.std.proofs.Common.{◌≡◌, ◌&&◌, Bool, true, false, not, List, [], ◌∷◌, ◌++◌, ℕ, ◌<◌, length}
use Rattle.std.proofs.Common.{refl, ap, ◌∙◌, sym, subst, codes, inr, arith}
use Rattle.std.proofs.KnownBytes.{Appends-nil}
use Rattle.std.proofs.lemmas.List.Sorted.{list_any-IsPermutation}
use Rattle.std.specs.List.Sorted.{IsPermutation}
use Rattle.std.specs.Str.{bytes_eq}
use Rattle.b2sum_commands.specs.declared.options.Options.{Options}
use Rattle.b2sum_commands.specs.FolderChecks.{FoldersAreComparedIfAny, FolderFilesAreLookedUp}
use Rattle.b2sum_commands.specs.FolderChecks.{NameIsLookedUp, has_name}
use Rattle.b2sum_commands.specs.Manifests.{prints_nothing}
use Rattle.b2sum_commands.specs.Messages.{Cannot, message, message_if}
use Rattle.std.specs.List.{list_all}
use Rattle.b2sum_commands.specs.Folders.{IsSortedPermutation, FoldersAreWalked}
use Rattle.b2sum_commands.specs.World.{AreDoneInTurn, OnlyTells, Streams, TellsText, World}

-- A name is one of some names, in whatever order they are.
pub has_name-in_any_order : (all names : List (List ℕ)) (name : List ℕ) (is : Bool)
    → IsPermutation all names → is ≡ has_name names name → is ≡ has_name all name
has_name-in_any_order all names name is same found =
    found ∙ sym (list_any-IsPermutation (λ n. bytes_eq n name) all names same)

-- Nothing is said.
unsaid : (s : Streams) → TellsText s s []
unsaid s = record { stays = λ failed. failed; accepted = inr (Appends-nil s.told) }

-- A name is there.
pub name_looked_up-there : (w : World) (o : Options) (names : List (List ℕ)) (name : List ℕ)
    (s : Streams)
    → true ≡ has_name names name → NameIsLookedUp w o names name s s true
name_looked_up-there w o names name s found = (found, refl, unsaid s)

-- A name is not there, and no message is wanted.
pub name_looked_up-missing_silently : (w : World) (o : Options) (names : List (List ℕ))
    (name : List ℕ) (s : Streams)
    → false ≡ has_name names name → prints_nothing o.report ≡ true
    → NameIsLookedUp w o names name s s false
name_looked_up-missing_silently w o names name s found quiet = (
  found,
  refl,
  subst (λ (b : Bool). TellsText s s (message_if (not b) w.program
      (Cannot name (codes "is not in the list")))) (sym quiet) (unsaid s),
)

-- A name is not there, as a message says.
pub name_looked_up-missing_told : (w : World) (o : Options) (names : List (List ℕ)) (name : List ℕ)
    (old new : Streams) → false ≡ has_name names name → prints_nothing o.report ≡ false
    → OnlyTells old new
    → TellsText old new (message w.program (Cannot name (codes "is not in the list")))
    → NameIsLookedUp w o names name old new false
name_looked_up-missing_told w o names name old new found loud only told = (
  found,
  only,
  subst (λ (b : Bool). TellsText old new (message_if (not b) w.program
      (Cannot name (codes "is not in the list")))) (sym loud) told,
)

-- There are folders, and all that is in them is looked for.
pub folders_compared-if_any : (w : World) (o : Options) (folders names : List (List ℕ))
    (old new : Streams)
    (all : Bool) → 0 < length folders → FolderFilesAreLookedUp w o folders names old new all
    → FoldersAreComparedIfAny w o folders names old new all
folders_compared-if_any w o [] names old new all some looked = absurd (omega (arith, some))
folders_compared-if_any w o (folder ∷ folders) names old new all some looked = looked

-- Bytes that are none.
pub no_bytes : (text : List ℕ) → length text ≡ 0 → text ≡ []
no_bytes [] none = refl
no_bytes (b ∷ text) none = absurd (omega (arith, none))

-- All that was found is looked for.
pub folder_files_looked_up-combined : (w : World) (o : Options)
    (folders names files others found : List (List ℕ))
    (old walked new : Streams) (are_listed are_there : Bool) (things : List (List ℕ))
    → FoldersAreWalked w folders old walked files others are_listed → found ≡ files ++ others
    → IsSortedPermutation found things
    → ((each : List Bool) × AreDoneInTurn (NameIsLookedUp w o names) things walked new each
    × (are_there ≡ list_all (λ is. is) each))
    → FolderFilesAreLookedUp w o folders names old new (are_listed && are_there)
folder_files_looked_up-combined w o folders names files others found old walked new are_listed
    are_there things walk both
    sorted looked = record {
      files = files;
      others = others;
      are_listed = are_listed;
      walked = walked;
      are_walked = walk;
      things = things;
      are_things = subst (λ fs. IsSortedPermutation fs things) both sorted;
      each = looked.0;
      are_looked_for = looked.1;
      are_all = ap (λ b. are_listed && b) looked.2;
    }
