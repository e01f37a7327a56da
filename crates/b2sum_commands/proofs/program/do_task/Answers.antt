use Rattle.std.proofs.Common.{List, ℕ, Vec, Global, subst, arith}
use Rattle.std.proofs.lemmas.List.{length-map}
use Rattle.std.specs.Result.{result_ok}
use Rattle.b2sum_commands.proofs.DoneInTurn.{items_of}
use Rattle.b2sum_commands.proofs.PrintedFolders.{files_done-if_checked, files_done-if_printed}
use Rattle.b2sum_commands.proofs.PrintedFolders.{all_files_printed-without_folders}
use Rattle.b2sum_commands.proofs.PrintedFolders.{all_files_printed-with_folders}
use Rattle.b2sum_commands.specs.SealedLists.{FilesArePrinted, FileIsCheckedByOptions}
use Rattle.b2sum_commands.specs.World.{NamesAreDoneInTurn, Streams, world_of}
use Rattle.b2sum_commands.proofs.program.do_task.Goals as goal

pub returns-then-options-clause-done : goal.returns-then-options-clause-done
returns-then-options-clause-done g c =
    let w = world_of c.args.host.now.program.name.items g.D.File.OpenFile.named
    g.D.File.OpenFile.failed g.D.File.OpenFile.failure (g.D.Disk.files c.args.host.now.disk)
    g.H.Hashes.hashing in
    let o = c.args.options.now in
    files_done-if_checked w o (items_of c.args.files.items) c.args.session.now
    c.check_manifests.new.session
    (result_ok c.check_manifests.result) c.if-options.true
    (subst (λ (ns : List (Vec ℕ Global)). NamesAreDoneInTurn (FileIsCheckedByOptions w o)
    (items_of ns)
    c.args.session.now c.check_manifests.new.session (result_ok c.check_manifests.result))
    c.as_slice.ensures.value c.check_manifests.ensures.checked)

pub returns-then-is_empty-clause-done : goal.returns-then-is_empty-clause-done
returns-then-is_empty-clause-done g c =
    let w = world_of c.args.host.now.program.name.items g.D.File.OpenFile.named
    g.D.File.OpenFile.failed g.D.File.OpenFile.failure (g.D.Disk.files c.args.host.now.disk)
    g.H.Hashes.hashing in
    let o = c.args.options.now in
    let names = items_of c.args.files.items in
    let new : Streams = c.print_list.new.session in
    let end = result_ok c.print_list.result in
    files_done-if_printed w o names c.args.session.now new end c.if-options.false
    (all_files_printed-without_folders w o (items_of o.folders.items) names c.args.session.now new
    end
    (grind (
      arith,
      c.is_empty.ensures,
      c.if-is_empty.true,
      length-map o.folders.items
          (λ (n : Vec ℕ Global). n.items),
    ))
    (subst (λ (ns : List (Vec ℕ Global)). FilesArePrinted o.is_sealed w o (items_of ns)
    c.args.session.now new end) c.as_slice-then-is_empty.ensures.value c.print_list.ensures.lines))

pub returns-clause-done : goal.returns-clause-done
returns-clause-done g c =
    let w = world_of c.args.host.now.program.name.items g.D.File.OpenFile.named
    g.D.File.OpenFile.failed g.D.File.OpenFile.failure (g.D.Disk.files c.args.host.now.disk)
    g.H.Hashes.hashing in
    let o = c.args.options.now in
    let names = items_of c.args.files.items in
    let new : Streams = c.print_with_folders.new.session in
    let end = result_ok c.print_with_folders.result in
    files_done-if_printed w o names c.args.session.now new end c.if-options.false
    (all_files_printed-with_folders w o (items_of o.folders.items) names c.args.session.now new end
    (grind (
      arith,
      c.is_empty.ensures,
      c.if-is_empty.false,
      length-map o.folders.items
          (λ (n : Vec ℕ Global). n.items),
    )) c.print_with_folders.ensures.printed)
