use Rattle.std.proofs.Common.{length}
use Rattle.b2sum_commands.proofs.DoneInTurn.{items_of}
use Rattle.b2sum_commands.proofs.FolderEntries.{NamesUpToRest}
use Rattle.b2sum_commands.specs.Folders.{is_file, is_folder_letter, is_other_letter}
use Rattle.b2sum_commands.proofs.folders.Found.add_entries.Given as goal

abbrev pub invariant-entry : goal.invariant-entry
invariant-entry l = record {
  folders : NamesUpToRest is_folder_letter l.folder l.fn.list (items_of l.fn.self.folders.items)
      l.rest
      (items_of l.self.folders.items);
  files : NamesUpToRest is_file l.folder l.fn.list (items_of l.fn.self.files.items) l.rest
      (items_of l.self.files.items);
  others : NamesUpToRest is_other_letter l.folder l.fn.list (items_of l.fn.self.others.items) l.rest
      (items_of l.self.others.items);
}

abbrev pub decreases-entry : goal.decreases-entry
decreases-entry l = length l.rest
