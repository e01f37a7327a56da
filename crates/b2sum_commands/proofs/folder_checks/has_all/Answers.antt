use Rattle.std.proofs.Common.{◌≡◌, ℕ, List, Vec, Global, ◌++◌, ap, ◌∙◌, sym, subst, arith}
use Rattle.std.proofs.lemmas.List.{length-map, map-append}
use Rattle.std.specs.List.Sorted.{IsPermutation}
use Rattle.text_lines.specs.Cuts.{lines_of}
use Rattle.b2sum_commands.proofs.DoneInTurn.{items_of}
use Rattle.b2sum_commands.proofs.LookedFor.{folders_compared-if_any}
use Rattle.b2sum_commands.proofs.LookedFor.{folder_files_looked_up-combined}
use Rattle.b2sum_commands.proofs.SortedNames.{sorted_permutation-as_bytes}
use Rattle.b2sum_commands.specs.FolderChecks.{entry_names_of_lines}
use Rattle.b2sum_commands.specs.Folders.{IsSortedPermutation, FoldersAreWalked}
use Rattle.b2sum_commands.specs.World.{world_of}
use Rattle.b2sum_commands.proofs.folder_checks.has_all.Goals as goal

pub returns-clause-compared : goal.returns-clause-compared
returns-clause-compared g c =
    let w = world_of c.args.host.now.program.name.items g.D.File.OpenFile.named
    g.D.File.OpenFile.failed g.D.File.OpenFile.failure (g.D.Disk.files c.args.host.now.disk)
    g.H.Hashes.hashing in
    let o = c.args.options.now in
    let folders = items_of o.folders.items in
    let names = entry_names_of_lines o c.args.is_input c.args.spacing (lines_of c.args.text.now) in
    let found = c.in_ok-found.found in
    let files : List (Vec ℕ Global) = found.files.items in
    let both : items_of c.append.new.self.items ≡ items_of files ++ items_of found.others.items =
    ap items_of c.in_ok-append.ensures.items
    ∙ map-append (λ (n : Vec ℕ Global). n.items) files found.others.items in
    let things : items_of c.sort_unstable.new.self.items ≡ items_of c.as_slice-things.result.now =
    ap items_of (sym c.as_slice-things.ensures.value) in
    folders_compared-if_any w o folders names c.args.session.now c.look_for.new.session _
    (grind (
      arith,
      c.is_empty.ensures,
      c.if-is_empty.false,
      length-map o.folders.items
          (λ (n : Vec ℕ Global). n.items),
    ))
    (folder_files_looked_up-combined w o folders names (items_of files)
    (items_of found.others.items)
    (items_of c.append.new.self.items) c.args.session.now c.walk.new.session c.look_for.new.session
    c.in_ok-found.are_listed c.in_ok-are_there.are_there (items_of c.as_slice-things.result.now)
    (subst (λ (ns : List (Vec ℕ Global)). FoldersAreWalked w (items_of ns) c.args.session.now
    c.walk.new.session (items_of files) (items_of found.others.items) c.in_ok-found.are_listed)
    c.as_slice.ensures.value c.in_ok-found.ensures.walked) both
    (subst (λ ts. IsSortedPermutation (items_of c.append.new.self.items) ts) things
    (sorted_permutation-as_bytes c.append.new.self.items c.sort_unstable.new.self.items
    c.sort_unstable.ensures.permutation c.sort_unstable.ensures.sorted))
    (c.in_ok-are_there.ensures.looked names
    (subst (λ (ns : List (Vec ℕ Global)). IsPermutation names (items_of ns))
    (sym c.as_slice-names.ensures.value) c.in_ok-names.ensures.names)))
