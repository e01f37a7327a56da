-- The lines of the files in folders.
use Rattle.std.proofs.Common.{◌≡◌, ◌⊎◌, ◌&&◌, Bool, true, false, List, ℕ, ◌++◌, [], ◌∷◌, ◌<◌, length}
use Rattle.std.proofs.Common.{Option, Some, None, refl, sym, subst, map, arith}
use Rattle.std.specs.Option.{option_map}
use Rattle.b2sum_commands.specs.declared.options.Options.{Options}
use Rattle.b2sum_commands.specs.Folders.{FoldersAreWalked, TellsNotRegularFiles}
use Rattle.b2sum_commands.specs.PrintedSums.{DigestLineIsPrinted}
use Rattle.b2sum_commands.specs.ProgramRuns.{FilesAreCheckedOrPrinted, AllFilesArePrinted}
use Rattle.b2sum_commands.specs.ProgramRuns.{FolderFilesArePrinted}
use Rattle.b2sum_commands.specs.SealedLists.{FilesArePrinted, FileIsCheckedByOptions}
use Rattle.b2sum_commands.specs.World.{NamesAreDoneInTurn, Streams, World}
use Rattle.b2sum_commands.proofs.OneMore.{and_true}

and_false : (b : Bool) → (b && false) ≡ false
and_false true = refl
and_false false = refl

option_map_true-is_same : (end : Option Bool) → end ≡ option_map (λ well. true && well) end
option_map_true-is_same None = refl
option_map_true-is_same (Some well) = refl

-- What is printed after the folders were walked.
pub record IsWalkedAndTold (w : World) (folders : List (List ℕ)) (old told : Streams)
    (files : List (List ℕ)) (are_listed : Bool) : Type 0 where
  pub others : List (List ℕ)
  pub walked : Streams
  pub are_walked : FoldersAreWalked w folders old walked files others are_listed
  pub are_told : TellsNotRegularFiles w others walked told

-- Each folder has a list.
pub folder_files_printed-if_listed : (w : World) (o : Options)
    (folders names files all : List (List ℕ))
    (old told new : Streams) (is : Bool) (end : Option Bool) → is ≡ true
    → IsWalkedAndTold w folders old told files is → all ≡ names ++ files
    → FilesArePrinted o.is_sealed w o all told new end
    → FolderFilesArePrinted w o folders names old new end
folder_files_printed-if_listed w o folders names files all old told new false end listed walk same
    printed =
    absurd (grind (arith, listed))
folder_files_printed-if_listed w o folders names files all old told new true end listed walk same
    printed = record {
      files = files;
      others = walk.others;
      are_listed = true;
      walked = walk.walked;
      are_walked = walk.are_walked;
      told = told;
      are_told = walk.are_told;
      printed = end;
      are_printed = subst (λ (s : Bool). FilesArePrinted s w o (names ++ files) told new end)
          (sym (and_true o.is_sealed))
          (subst (λ ns. FilesArePrinted o.is_sealed w o ns told new end) same printed);
      is_end = option_map_true-is_same end;
    }

-- A folder has no list, so nothing is sealed.
pub folder_files_unsealed-if_unlisted : (w : World) (o : Options)
    (folders names files all : List (List ℕ))
    (old told new : Streams) (is : Bool) (end : Option Bool) → is ≡ false
    → IsWalkedAndTold w folders old told files is → all ≡ names ++ files
    → NamesAreDoneInTurn (DigestLineIsPrinted w o) all told new end
    → FolderFilesArePrinted w o folders names old new (option_map (λ _. false) end)
folder_files_unsealed-if_unlisted w o folders names files all old told new true end unlisted walk
    same printed =
    absurd (grind (arith, unlisted))
folder_files_unsealed-if_unlisted w o folders names files all old told new false end unlisted walk
    same printed =
    record {
      files = files;
      others = walk.others;
      are_listed = false;
      walked = walk.walked;
      are_walked = walk.are_walked;
      told = told;
      are_told = walk.are_told;
      printed = end;
      are_printed = subst (λ (s : Bool). FilesArePrinted s w o (names ++ files) told new end)
          (sym (and_false o.is_sealed))
          (subst (λ ns. NamesAreDoneInTurn (DigestLineIsPrinted w o) ns told new end) same printed);
      is_end = refl;
    }

-- There are folders.
pub all_files_printed-with_folders : (w : World) (o : Options) (folders names : List (List ℕ))
    (old new : Streams)
    (end : Option Bool) → 0 < length folders
    → FolderFilesArePrinted w o folders names old new end
    ⊎ ((end ≡ None) × (new.held ≡ old.held)) → AllFilesArePrinted folders w o names old new end
all_files_printed-with_folders w o [] names old new end some printed = absurd (omega (arith, some))
all_files_printed-with_folders w o (folder ∷ folders) names old new end some printed = printed

-- There are no folders.
pub all_files_printed-without_folders : (w : World) (o : Options) (folders names : List (List ℕ))
    (old new : Streams)
    (end : Option Bool) → length folders ≡ 0 → FilesArePrinted o.is_sealed w o names old new end
    → AllFilesArePrinted folders w o names old new end
all_files_printed-without_folders w o [] names old new end none printed = printed
all_files_printed-without_folders w o (folder ∷ folders) names old new end none printed = absurd
    (omega (arith, none))

-- The files are checked.
pub files_done-if_checked : (w : World) (o : Options) (names : List (List ℕ)) (old new : Streams)
    (end : Option Bool) → o.checks ≡ true
    → NamesAreDoneInTurn (FileIsCheckedByOptions w o) names old new end
    → FilesAreCheckedOrPrinted o.checks w o names old new end
files_done-if_checked w o names old new end checks done =
    subst (λ (b : Bool). FilesAreCheckedOrPrinted b w o names old new end) (sym checks) done

-- The lines of the files are printed.
pub files_done-if_printed : (w : World) (o : Options) (names : List (List ℕ)) (old new : Streams)
    (end : Option Bool) → o.checks ≡ false
    → AllFilesArePrinted (map (λ folder. folder.items) o.folders.items) w o names old new end
    → FilesAreCheckedOrPrinted o.checks w o names old new end
files_done-if_printed w o names old new end checks done =
    subst (λ (b : Bool). FilesAreCheckedOrPrinted b w o names old new end) (sym checks) done
