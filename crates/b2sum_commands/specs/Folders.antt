-- What folders have: the names of their entries, and those of the folders in them.
use Rattle.std.specs.Prelude.{◌≡◌, ◌⊎◌, ℕ, ◌^◌, ◌==◌, ◌||◌, Bool, not, List, [], ◌∷◌, ◌++◌}
use Rattle.std.specs.Prelude.{codes, nat_eq, if◌then◌else◌}
use Rattle.std.specs.Prelude.{Option, Some, None, is_some}
use Rattle.std.specs.Io.KnownBytes.{Consumes, IsAtEnd}
use Rattle.std.specs.List.{ends_with, flat_map, list_all, slice_split}
use Rattle.std.specs.List.Sorted.{IsPermutation, IsSorted}
use Rattle.std.specs.Ordering.{nat_cmp}
use Rattle.std.specs.Cmp.Lexicographic.{slice_cmp}
use Rattle.std.specs.declared.io.Error.{Error}
use Rattle.b2sum_commands.specs.Messages.{Cannot, message}
use Rattle.b2sum_commands.specs.LongLists.{HasMoreBytesThan, list_too_long_reason}
use Rattle.b2sum_commands.specs.World.{AreDoneInTurn, OnlyTells, Streams, TellsMessage, TellsText}
use Rattle.b2sum_commands.specs.World.{World}

-- ---- names

-- The name of an entry of a folder: that of the folder, a slash if it has none at its end, and that
-- of the entry in it.
abbrev pub path_in_folder : List ℕ → List ℕ → List ℕ
path_in_folder folder name =
    if ends_with nat_eq folder (codes "/") then folder ++ name else folder ++ (47 ∷ name)

-- The letter of a folder.
abbrev pub is_folder_letter : ℕ → Bool
is_folder_letter kind = kind == 100

-- The letter of a regular file.
abbrev pub is_file : ℕ → Bool
is_file kind = kind == 102

-- Any other letter, such as that of a link.
abbrev pub is_other_letter : ℕ → Bool
is_other_letter kind = not (is_folder_letter kind || is_file kind)

-- The name of an entry, a letter and a name in its folder, if the letter passes the test.
abbrev pub entry_path_if : (ℕ → Bool) → List ℕ → List ℕ → List (List ℕ)
entry_path_if is folder [] = []
entry_path_if is folder (kind ∷ name) = if is kind then path_in_folder folder name ∷ [] else []

-- The names of entries of a folder that has this list, in which a zero byte ends each.
abbrev pub entry_paths_in_list : (ℕ → Bool) → List ℕ → List ℕ → List (List ℕ)
entry_paths_in_list is folder list = flat_map (entry_path_if is folder)
    (slice_split (λ b. b == 0) list)

-- The names of entries of a folder: none if it has no list.
abbrev pub listed_names : (ℕ → Bool) → List ℕ → Option (List ℕ) → List (List ℕ)
listed_names is folder None = []
listed_names is folder (Some list) = entry_paths_in_list is folder list

-- The names of entries of these folders, which have these lists.
abbrev pub entry_paths_of_folders : (ℕ → Bool) → List (List ℕ) → List (Option (List ℕ))
    → List (List ℕ)
entry_paths_of_folders is [] lists = []
entry_paths_of_folders is (folder ∷ folders) [] = []
entry_paths_of_folders is (folder ∷ folders) (list ∷ lists) =
    listed_names is folder list ++ entry_paths_of_folders is folders lists

-- The names in the order of their bytes.
pub record IsSortedPermutation (names sorted : List (List ℕ)) : Type 0 where
  pub same : IsPermutation names sorted
  pub rise : IsSorted (slice_cmp nat_cmp) sorted

-- ---- what is read

-- A folder has no list, for this reason: it cannot be opened or read, or its list has more than
-- 2^28 bytes.
abbrev pub CannotListFolder : World → List ℕ → List ℕ → Type 0
CannotListFolder w folder reason =
    ((e : Error) × (w.files.refuses folder e ⊎ w.fails folder e) × w.files.describes e reason)
    ⊎ (HasMoreBytesThan (w.files.lists folder) (2 ^ 28) × (reason ≡ list_too_long_reason))

-- The folder of this name has this list, or none, as a message says.
abbrev pub FolderIsListed : World → List ℕ → Streams → Streams → Option (List ℕ) → Type 0
FolderIsListed w folder old new (Some list) = (new ≡ old)
    × (end : Option (List ℕ)) × Consumes (w.files.lists folder) end list × IsAtEnd end
FolderIsListed w folder old new None = OnlyTells old new
    × (reason : List ℕ) × CannotListFolder w folder reason
    × TellsMessage w old new (Cannot folder reason)

-- All these folders are listed, and those in them, and so on: their files, what else they have, and
-- whether each folder has a list. Folders in several of these are listed as often.
pub record FoldersAreWalked (w : World) (given : List (List ℕ)) (old new : Streams)
    (files others : List (List ℕ)) (all : Bool) : Type 0 where
  pub folders : List (List ℕ)
  pub lists : List (Option (List ℕ))
  pub are_listed : AreDoneInTurn (FolderIsListed w) folders old new lists
  pub are_folders : folders ≡ given ++ entry_paths_of_folders is_folder_letter folders lists
  pub are_files : IsSortedPermutation (entry_paths_of_folders is_file folders lists) files
  pub are_others : IsSortedPermutation (entry_paths_of_folders is_other_letter folders lists) others
  pub are_all : all ≡ list_all is_some lists

-- ---- what is said

-- Messages say of each of these names that it is not that of a regular file.
abbrev pub not_regular_file_messages : List ℕ → List (List ℕ) → List ℕ
not_regular_file_messages program names =
    flat_map (λ name. message program (Cannot name (codes "is not a regular file"))) names

-- All but the regular files are named by messages.
abbrev pub TellsNotRegularFiles : World → List (List ℕ) → Streams → Streams → Type 0
TellsNotRegularFiles w others old new =
    OnlyTells old new × TellsText old new (not_regular_file_messages w.program others)
