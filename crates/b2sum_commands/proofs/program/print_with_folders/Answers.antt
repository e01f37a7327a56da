use Rattle.std.proofs.Common.{◌≡◌, ◌⊎◌, List, ℕ, Vec, Global, Some, None, ap, ◌∙◌, subst, inl}
use Rattle.std.proofs.lemmas.List.{map-append}
use Rattle.std.specs.Result.{result_ok}
use Rattle.b2sum_commands.proofs.DoneInTurn.{items_of}
use Rattle.b2sum_commands.proofs.PrintedFolders.{IsWalkedAndTold, folder_files_printed-if_listed}
use Rattle.b2sum_commands.proofs.PrintedFolders.{folder_files_unsealed-if_unlisted}
use Rattle.b2sum_commands.specs.Folders.{FoldersAreWalked, not_regular_file_messages}
use Rattle.b2sum_commands.proofs.EndedByErrors.{result_ok-none_after_error}
use Rattle.b2sum_commands.specs.PrintedSums.{DigestLineIsPrinted}
use Rattle.b2sum_commands.specs.ProgramRuns.{FolderFilesArePrinted}
use Rattle.b2sum_commands.specs.SealedLists.{FilesArePrinted}
use Rattle.b2sum_commands.specs.World.{NamesAreDoneInTurn, Streams, TellsText, world_of}
use Rattle.b2sum_commands.proofs.program.print_with_folders.Goals as goal

pub returns-then-are_listed-clause-printed : goal.returns-then-are_listed-clause-printed
returns-then-are_listed-clause-printed g c =
    let w = world_of c.args.host.now.program.name.items g.D.File.OpenFile.named
    g.D.File.OpenFile.failed g.D.File.OpenFile.failure (g.D.Disk.files c.args.host.now.disk)
    g.H.Hashes.hashing in
    let o = c.args.options.now in
    let folders = items_of o.folders.items in
    let found = c.in_ok-found.found in
    let old : Streams = c.args.session.now in
    let walked : Streams = c.walk.new.session in
    let told : Streams = c.warn_of_others.new.session in
    let new : Streams = c.print_list.new.session in
    let end = result_ok c.print_list.result in
    let walk : IsWalkedAndTold w folders old told (items_of found.files.items)
    c.in_ok-found.are_listed = record {
      others = items_of found.others.items;
      walked = walked;
      are_walked = subst (λ (ns : List (Vec ℕ Global)). FoldersAreWalked w (items_of ns) old walked
          (items_of found.files.items) (items_of found.others.items) c.in_ok-found.are_listed)
          c.as_slice.ensures.value c.in_ok-found.ensures.walked;
      are_told = (
        c.warn_of_others.ensures.only,
        subst (λ (ns : List (Vec ℕ Global)). TellsText walked told
            (not_regular_file_messages w.program (items_of ns)))
            c.as_slice-2.ensures.value c.in_ok-warn_of_others.ensures.told,
      );
    } in
    inl (folder_files_printed-if_listed w o folders (items_of c.args.files.items)
    (items_of found.files.items)
    (items_of c.append.new.self.items) old told new c.in_ok-found.are_listed end c.if-are_listed.true walk
    (ap items_of c.in_ok-append.ensures.items
    ∙ map-append (λ (n : Vec ℕ Global). n.items) c.args.files.items found.files.items)
    (subst (λ (ns : List (Vec ℕ Global)). FilesArePrinted o.is_sealed w o (items_of ns) told new
    end)
    c.as_slice-then-are_listed.ensures.value c.print_list.ensures.lines))

pub returns-in_err-print_sums-clause-printed : goal.returns-in_err-print_sums-clause-printed
returns-in_err-print_sums-clause-printed g c =
    let w = world_of c.args.host.now.program.name.items g.D.File.OpenFile.named
    g.D.File.OpenFile.failed g.D.File.OpenFile.failure (g.D.Disk.files c.args.host.now.disk)
    g.H.Hashes.hashing in
    let o = c.args.options.now in
    let folders = items_of o.folders.items in
    let names = items_of c.args.files.items in
    let found = c.in_ok-found.found in
    let old : Streams = c.args.session.now in
    let walked : Streams = c.walk.new.session in
    let told : Streams = c.warn_of_others.new.session in
    let new : Streams = c.print_sums.new.session in
    let walk : IsWalkedAndTold w folders old told (items_of found.files.items)
    c.in_ok-found.are_listed = record {
      others = items_of found.others.items;
      walked = walked;
      are_walked = subst (λ (ns : List (Vec ℕ Global)). FoldersAreWalked w (items_of ns) old walked
          (items_of found.files.items) (items_of found.others.items) c.in_ok-found.are_listed)
          c.as_slice.ensures.value c.in_ok-found.ensures.walked;
      are_told = (
        c.warn_of_others.ensures.only,
        subst (λ (ns : List (Vec ℕ Global)). TellsText walked told
            (not_regular_file_messages w.program (items_of ns)))
            c.as_slice-2.ensures.value c.in_ok-warn_of_others.ensures.told,
      );
    } in
    result_ok-none_after_error (λ end. FolderFilesArePrinted w o folders names old new end
    ⊎ ((end ≡ None) × (new.held ≡ old.held))) _ _ c.from_residual-in_err-print_sums.ensures.1
    (inl (folder_files_unsealed-if_unlisted w o folders names (items_of found.files.items)
    (items_of c.append.new.self.items) old told new c.in_ok-found.are_listed None c.if-are_listed.false
    walk
    (ap items_of c.in_ok-append.ensures.items
    ∙ map-append (λ (n : Vec ℕ Global). n.items) c.args.files.items found.files.items)
    (subst (λ (ns : List (Vec ℕ Global)). NamesAreDoneInTurn (DigestLineIsPrinted w o) (items_of ns)
    told new None)
    c.as_slice-3.ensures.value c.in_err-print_sums.ensures.lines)))

pub returns-clause-printed : goal.returns-clause-printed
returns-clause-printed g c =
    let w = world_of c.args.host.now.program.name.items g.D.File.OpenFile.named
    g.D.File.OpenFile.failed g.D.File.OpenFile.failure (g.D.Disk.files c.args.host.now.disk)
    g.H.Hashes.hashing in
    let o = c.args.options.now in
    let folders = items_of o.folders.items in
    let names = items_of c.args.files.items in
    let found = c.in_ok-found.found in
    let old : Streams = c.args.session.now in
    let walked : Streams = c.walk.new.session in
    let told : Streams = c.warn_of_others.new.session in
    let new : Streams = c.print_sums.new.session in
    let walk : IsWalkedAndTold w folders old told (items_of found.files.items)
    c.in_ok-found.are_listed = record {
      others = items_of found.others.items;
      walked = walked;
      are_walked = subst (λ (ns : List (Vec ℕ Global)). FoldersAreWalked w (items_of ns) old walked
          (items_of found.files.items) (items_of found.others.items) c.in_ok-found.are_listed)
          c.as_slice.ensures.value c.in_ok-found.ensures.walked;
      are_told = (
        c.warn_of_others.ensures.only,
        subst (λ (ns : List (Vec ℕ Global)). TellsText walked told
            (not_regular_file_messages w.program (items_of ns)))
            c.as_slice-2.ensures.value c.in_ok-warn_of_others.ensures.told,
      );
    } in
    inl (folder_files_unsealed-if_unlisted w o folders names (items_of found.files.items)
    (items_of c.append.new.self.items) old told new c.in_ok-found.are_listed (Some c.in_ok-print_sums.field-0) c.if-are_listed.false
    walk
    (ap items_of c.in_ok-append.ensures.items
    ∙ map-append (λ (n : Vec ℕ Global). n.items) c.args.files.items found.files.items)
    (subst (λ (ns : List (Vec ℕ Global)). NamesAreDoneInTurn (DigestLineIsPrinted w o) (items_of ns)
    told new (Some c.in_ok-print_sums.field-0))
    c.as_slice-3.ensures.value c.in_ok-print_sums.ensures.lines))
