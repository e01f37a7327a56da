-- Folders that are listed one after the other, while more are found.
use Rattle.std.proofs.Common.{◌≡◌, ℕ, ◌+◌, ◌<◌, ◌≤◌, ◌&&◌, Bool, true, List, [], ◌∷◌, ◌++◌}
use Rattle.std.proofs.Common.{Option, Some, None, is_some, refl, ap, ◌∙◌, sym, subst, length, take}
use Rattle.std.proofs.Common.{get_or, append_assoc, append-nil, length-append, arith, codes}
use Rattle.std.proofs.Common.{Vec, Global, Result, Ok, Err, IfOk, IfSome, ◌⊎◌, inl, inr}
use Rattle.std.proofs.Common.{◌^◌, false}
use Rattle.std.proofs.lemmas.Grind.{flat_map-append}
use Rattle.std.proofs.lemmas.List.{map-append, take-append-le, take_all, take_more}
use Rattle.std.specs.List.{list_all}
use Rattle.b2sum_commands.proofs.CheckedLines.{done_in_turn-append}
use Rattle.b2sum_commands.proofs.DoneInTurn.{items_of}
use Rattle.b2sum_commands.proofs.MessagesInTurn.{two_texts-written_in_turn}
use Rattle.b2sum_commands.proofs.OneMore.{list_all-append}
use Rattle.b2sum_commands.specs.Folders.{IsSortedPermutation, FoldersAreWalked, FolderIsListed}
use Rattle.b2sum_commands.specs.Folders.{entry_paths_of_folders, is_file}
use Rattle.b2sum_commands.specs.Folders.{is_folder_letter, is_other_letter, listed_names}
use Rattle.b2sum_commands.specs.Folders.{CannotListFolder, not_regular_file_messages}
use Rattle.b2sum_commands.specs.LongLists.{HasMoreBytesThan, list_too_long_reason}
use Rattle.b2sum_commands.specs.declared.devices.Fault.{Fault}
use Rattle.std.specs.Io.KnownBytes.{Consumes, IsAtEnd}
use Rattle.std.specs.Option.{option_map}
use Rattle.std.specs.declared.io.Error.{Error}
use Rattle.b2sum_commands.proofs.KnownBytes.{IsKnown}
use Rattle.b2sum_commands.proofs.SealedChecks.{OpenListIsNotRead, whole_text-of_file}
use Rattle.b2sum_commands.proofs.SealedChecks.{too_many_bytes-of_known_list}
use Rattle.b2sum_commands.specs.Messages.{Cannot, message}
use Rattle.b2sum_commands.specs.World.{AreDoneInTurn, OnlyTells, Streams, TellsText, World}

-- The folders before this index are listed.
pub record FoldersAreWalkedTo (w : World) (given : List (List ℕ)) (old now : Streams)
    (folders files others : List (List ℕ)) (at : ℕ) (lists : List (Option (List ℕ)))
    (all : Bool) : Type 0 where
  pub fits : at ≤ length folders
  pub are_listed : AreDoneInTurn (FolderIsListed w) (take at folders) old now lists
  pub are_folders : folders ≡ given
      ++ entry_paths_of_folders is_folder_letter (take at folders) lists
  pub are_files : files ≡ entry_paths_of_folders is_file (take at folders) lists
  pub are_others : others ≡ entry_paths_of_folders is_other_letter (take at folders) lists
  pub are_all : all ≡ list_all is_some lists

-- As many folders are listed as there are lists.
as_many_lists-as_folders : (w : World) (folders : List (List ℕ)) (old now : Streams)
    (lists : List (Option (List ℕ))) → AreDoneInTurn (FolderIsListed w) folders old now lists
    → length folders ≡ length lists
as_many_lists-as_folders w [] old now [] turns = refl
as_many_lists-as_folders w [] old now (list ∷ lists) turns = absurd turns
as_many_lists-as_folders w (folder ∷ folders) old now [] turns = absurd turns
as_many_lists-as_folders w (folder ∷ folders) old now (list ∷ lists) turns =
    omega (arith, as_many_lists-as_folders w folders turns.0 now lists turns.2)

-- The names of one more folder.
entry_paths-append_folder : (is : ℕ → Bool) (folders : List (List ℕ))
    (lists : List (Option (List ℕ)))
    (folder : List ℕ) (list : Option (List ℕ)) → length folders ≡ length lists
    → entry_paths_of_folders is (folders ++ (folder ∷ [])) (lists ++ (list ∷ []))
    ≡ entry_paths_of_folders is folders lists ++ listed_names is folder list
entry_paths-append_folder is [] [] folder list same = append-nil (listed_names is folder list)
entry_paths-append_folder is [] (l ∷ lists) folder list same = absurd (omega (arith, same))
entry_paths-append_folder is (f ∷ folders) [] folder list same = absurd (omega (arith, same))
entry_paths-append_folder is (f ∷ folders) (l ∷ lists) folder list same =
    ap (λ ns. listed_names is f l ++ ns)
    (entry_paths-append_folder is folders lists folder list (omega (arith, same)))
    ∙ sym (append_assoc (listed_names is f l) (entry_paths_of_folders is folders lists)
    (listed_names is folder list))

-- No folder is listed.
pub walked_to-no_folder : (w : World) (given : List (List ℕ)) (old : Streams)
    (folders files others : List (List ℕ)) → folders ≡ given → files ≡ [] → others ≡ []
    → FoldersAreWalkedTo w given old old folders files others 0 [] true
walked_to-no_folder w given old folders files others are none no_others = record {
  fits = omega arith;
  are_listed = refl;
  are_folders = are ∙ sym (append-nil given);
  are_files = none;
  are_others = no_others;
  are_all = refl;
}

-- One more folder is listed.
pub walked_to-next_folder : (w : World) (given : List (List ℕ)) (old now new : Streams)
    (folders files others after_folders after_files after_others : List (List ℕ)) (at : ℕ)
    (lists : List (Option (List ℕ))) (all is : Bool) (list : Option (List ℕ)) (folder : List ℕ)
    → at < length folders → folder ≡ get_or folders at folder
    → FoldersAreWalkedTo w given old now folders files others at lists all
    → is ≡ is_some list → FolderIsListed w folder now new list
    → after_folders ≡ folders ++ listed_names is_folder_letter folder list
    → after_files ≡ files ++ listed_names is_file folder list
    → after_others ≡ others ++ listed_names is_other_letter folder list
    → FoldersAreWalkedTo w given old new after_folders after_files after_others (at + 1)
    (lists ++ (list ∷ [])) (all && is)
walked_to-next_folder w given old now new folders files others after_folders after_files
    after_others at
    lists all is list folder below here walked listed one more_folders more_files more_others =
    let more = listed_names is_folder_letter folder list in
    let done : List (List ℕ) = take at folders in
    let next : take (at + 1) after_folders ≡ done ++ (folder ∷ []) =
    ap (take (at + 1)) more_folders ∙ take-append-le (at + 1) folders more (omega (arith, below))
    ∙ take_more folders at folder below ∙ ap (λ f. done ++ (f ∷ [])) (sym here) in
    let same = as_many_lists-as_folders w done old now lists walked.are_listed in
    let names = λ (test : ℕ → Bool). entry_paths-append_folder test done lists folder list same in
    let before = λ (test : ℕ → Bool). ap
    (λ fs. entry_paths_of_folders test fs (lists ++ (list ∷ []))) next
    ∙ names test in
    record {
      fits = omega (arith, below, ap length more_folders, length-append folders more);
      are_listed = subst (λ fs. AreDoneInTurn (FolderIsListed w) fs old new (lists ++ (list ∷ [])))
          (sym next)
          (done_in_turn-append (FolderIsListed w) done folder old now new lists list
          walked.are_listed one);
      are_folders = more_folders ∙ ap (λ fs. fs ++ more) walked.are_folders
          ∙ append_assoc given (entry_paths_of_folders is_folder_letter done lists) more
          ∙ ap (λ ns. given ++ ns) (sym (before is_folder_letter));
      are_files = more_files ∙ ap (λ fs. fs ++ listed_names is_file folder list) walked.are_files
          ∙ sym (before is_file);
      are_others =
          more_others ∙ ap (λ fs. fs ++ listed_names is_other_letter folder list) walked.are_others
          ∙ sym (before is_other_letter);
      are_all = ap (λ b. b && is) walked.are_all
          ∙ ap (λ b. list_all is_some lists && b) listed ∙ sym (list_all-append is_some lists list);
    }

-- All folders are listed.
pub folders_walked-if_all_listed : (w : World) (given : List (List ℕ)) (old now : Streams)
    (folders files others sorted_files sorted_others : List (List ℕ)) (at : ℕ)
    (lists : List (Option (List ℕ))) (all : Bool) → length folders ≤ at
    → FoldersAreWalkedTo w given old now folders files others at lists all
    → IsSortedPermutation files sorted_files → IsSortedPermutation others sorted_others
    → FoldersAreWalked w given old now sorted_files sorted_others all
folders_walked-if_all_listed w given old now folders files others sorted_files sorted_others at
    lists all end walked
    by_file by_other =
    let whole : take at folders ≡ folders = take_all at folders end in
    let names = λ (test : ℕ → Bool). ap (λ fs. entry_paths_of_folders test fs lists) whole in
    record {
      folders = folders;
      lists = lists;
      are_listed = subst (λ fs. AreDoneInTurn (FolderIsListed w) fs old now lists) whole
          walked.are_listed;
      are_folders = walked.are_folders ∙ ap (λ ns. given ++ ns) (names is_folder_letter);
      are_files = subst (λ fs. IsSortedPermutation fs sorted_files)
          (walked.are_files ∙ names is_file)
          by_file;
      are_others = subst (λ fs. IsSortedPermutation fs sorted_others)
          (walked.are_others ∙ names is_other_letter)
          by_other;
      are_all = walked.are_all;
    }

-- The names before this index have their messages.
pub record OthersAreToldUpTo (program : List ℕ) (names : List (Vec ℕ Global)) (i : ℕ)
    (old now : Streams)
    : Type 0 where
  pub only : OnlyTells old now
  pub told : TellsText old now (not_regular_file_messages program (items_of (take i names)))

-- One more name has its message.
pub others_told-next_name : (program : List ℕ) (names : List (Vec ℕ Global)) (i : ℕ)
    (name : Vec ℕ Global)
    (shown : List ℕ) (old now new : Streams) → i < length names → name ≡ get_or names i name
    → shown ≡ name.items → OnlyTells old now
    → TellsText old now (not_regular_file_messages program (items_of (take i names)))
    → OnlyTells now new
    → TellsText now new (message program (Cannot shown (codes "is not a regular file")))
    → OthersAreToldUpTo program names (i + 1) old new
others_told-next_name program names i name shown old now new below is value only told one said =
    record {
      only = one ∙ ap (λ (s : Streams). record s { told = new.told; messages_failed = new.messages_failed })
          only;
      told = subst (λ text. TellsText old new text) (sym more)
          (two_texts-written_in_turn old.messages_failed now.messages_failed new.messages_failed
          old.told now.told
          new.told before this told said);
    }
  where
    before : List ℕ
    before = not_regular_file_messages program (items_of (take i names))

    this : List ℕ
    this = message program (Cannot shown (codes "is not a regular file"))

    more : not_regular_file_messages program (items_of (take (i + 1) names)) ≡ before ++ this
    more = ap (λ ns. not_regular_file_messages program (items_of ns)) (take_more names i name below)
        ∙ ap (λ n. not_regular_file_messages program (items_of (take i names ++ (n ∷ [])))) (sym is)
        ∙ ap (not_regular_file_messages program)
        (map-append (λ (n : Vec ℕ Global). n.items) (take i names) (name ∷ []))
        ∙ flat_map-append (λ n. message program (Cannot n (codes "is not a regular file")))
        (items_of (take i names)) (name.items ∷ [])
        ∙ ap (λ ms. before ++ ms)
        (append-nil (message program (Cannot name.items (codes "is not a regular file")))
        ∙ ap (λ n. message program (Cannot n (codes "is not a regular file"))) (sym value))

-- The list of a folder is read, or is not, as a message says.
pub folder_listed-if_read_or_told : (w : World) (folder : List ℕ) (left after : Option (List ℕ))
    (old new : Streams) (r : Result (Option (Vec ℕ Global)) Fault)
    → IsKnown (w.files.lists folder) left
    → IfOk r (λ f. IfSome f (λ list. Consumes left after list.items × IsAtEnd after
    × (length list.items ≤ 2 ^ 28)))
    → IfOk r (λ f. IfSome f (λ _. new ≡ old)) → OnlyTells old new
    → IfOk r (λ f. f ≡ None → OpenListIsNotRead w folder (2 ^ 28) left old new)
    → IfOk r (λ f. FolderIsListed w folder old new (option_map (λ list. list.items) f))
folder_listed-if_read_or_told w folder left after old new (Err e) known text same only told = tt
folder_listed-if_read_or_told w folder left after old new (Ok (Some list)) known text same only
    told =
    let is = whole_text-of_file false (w.files.lists folder) None left after list.items refl known
    text.0 text.1 in
    (same, is.1, is.2, is.3)
folder_listed-if_read_or_told w folder left after old new (Ok None) known text same only told =
    let unlisted = told refl in
    (only, unlisted.0, go unlisted.1, unlisted.2)
  where
    go : ((e : Error) × w.fails folder e × w.files.describes e (told refl).0)
        ⊎ (HasMoreBytesThan left (2 ^ 28) × ((told refl).0 ≡ list_too_long_reason))
        → CannotListFolder w folder (told refl).0
    go (inl broken) = inl (broken.0, inr broken.1, broken.2)
    go (inr long) = inr
        (too_many_bytes-of_known_list (w.files.lists folder) left (2 ^ 28) known long.0, long.1)
