use Rattle.std.proofs.Common.{List, ℕ}
use Rattle.b2sum_commands.proofs.DoneInTurn.{items_of}
use Rattle.b2sum_commands.proofs.FolderEntries.{all_names-after_last_entry}
use Rattle.b2sum_commands.proofs.FolderEntries.{names_up_to_rest-next_entry}
use Rattle.b2sum_commands.specs.Folders.{is_file, is_folder_letter, is_other_letter}
use Rattle.b2sum_commands.proofs.folders.Found.add_entries.Goals as goal

pub entry-preserved : goal.entry-preserved
entry-preserved c =
    let folder : List ℕ = c.args.folder.now in
    let list : List ℕ = c.args.list.now in
    record {
      folders = names_up_to_rest-next_entry is_folder_letter folder list
          (items_of c.args.self.now.folders.items) c.entry.rest.now
          c.in-Some.entry.now c.in-Some.after.now (items_of c.entry.self.folders.items)
          (items_of c.add_entry.new.self.folders.items) c.in-Some.ensures c.entry.invariant.folders
          c.in_ok-add_entry.ensures.folders;
      files = names_up_to_rest-next_entry is_file folder list (items_of c.args.self.now.files.items)
          c.entry.rest.now
          c.in-Some.entry.now c.in-Some.after.now (items_of c.entry.self.files.items)
          (items_of c.add_entry.new.self.files.items) c.in-Some.ensures c.entry.invariant.files
          c.in_ok-add_entry.ensures.files;
      others = names_up_to_rest-next_entry is_other_letter folder list
          (items_of c.args.self.now.others.items) c.entry.rest.now
          c.in-Some.entry.now c.in-Some.after.now (items_of c.entry.self.others.items)
          (items_of c.add_entry.new.self.others.items) c.in-Some.ensures c.entry.invariant.others
          c.in_ok-add_entry.ensures.others;
    }

pub returns-clause-folders : goal.returns-clause-folders
returns-clause-folders c =
    all_names-after_last_entry is_folder_letter c.args.folder.now c.args.list.now
    (items_of c.args.self.now.folders.items)
    c.entry.rest.now (items_of c.entry.self.folders.items) (items_of c.add_entry-2.new.self.folders.items)
    c.in_default.ensures c.entry.invariant.folders c.in_ok-add_entry-2.ensures.folders

pub returns-clause-files : goal.returns-clause-files
returns-clause-files c =
    all_names-after_last_entry is_file c.args.folder.now c.args.list.now
    (items_of c.args.self.now.files.items)
    c.entry.rest.now (items_of c.entry.self.files.items) (items_of c.add_entry-2.new.self.files.items)
    c.in_default.ensures c.entry.invariant.files c.in_ok-add_entry-2.ensures.files

pub returns-clause-others : goal.returns-clause-others
returns-clause-others c =
    all_names-after_last_entry is_other_letter c.args.folder.now c.args.list.now
    (items_of c.args.self.now.others.items)
    c.entry.rest.now (items_of c.entry.self.others.items) (items_of c.add_entry-2.new.self.others.items)
    c.in_default.ensures c.entry.invariant.others c.in_ok-add_entry-2.ensures.others
