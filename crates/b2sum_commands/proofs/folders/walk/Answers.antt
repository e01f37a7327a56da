use Rattle.std.proofs.Common.{◌≡◌, ℕ, ◌<◌, List, [], ◌∷◌, ◌++◌, ap, ◌∙◌, sym, refl, get_or, arith}
use Rattle.std.proofs.Common.{length, Vec, Global}
use Rattle.std.proofs.lemmas.List.{get_or-map, length-map}
use Rattle.b2sum_commands.specs.World.{world_of}
use Rattle.b2sum_commands.proofs.DoneInTurn.{items_of}
use Rattle.b2sum_commands.proofs.WalkedFolders.{walked_to-next_folder, walked_to-no_folder}
use Rattle.b2sum_commands.proofs.folders.walk.Goals as goal

pub loop-at-init : goal.loop-at-init
loop-at-init g c =
    let w = world_of c.args.host.now.program.name.items g.D.File.OpenFile.named
    g.D.File.OpenFile.failed g.D.File.OpenFile.failure (g.D.Disk.files c.args.host.now.disk)
    g.H.Hashes.hashing in
    record {
      walked = (
        [],
        walked_to-no_folder w (items_of c.args.given.now) c.args.session.now
            (items_of c.in_ok-found.found.folders.items) (items_of c.in_ok-found.found.files.items)
            (items_of c.in_ok-found.found.others.items) c.in_ok-found.ensures.folders
            (ap items_of c.in_ok-found.ensures.files) (ap items_of c.in_ok-found.ensures.others),
      );
      held = refl;
    }

pub loop-at-preserved : goal.loop-at-preserved
loop-at-preserved g c =
    let w = world_of c.args.host.now.program.name.items g.D.File.OpenFile.named
    g.D.File.OpenFile.failed g.D.File.OpenFile.failure (g.D.Disk.files c.args.host.now.disk)
    g.H.Hashes.hashing in
    let before = c.loop-at.invariant.walked in
    let found = c.loop-at.found in
    let new = c.list_folder.new.found in
    let listed = c.in_ok-is_listed.ensures.listed in
    let folder : List ℕ = c.as_slice-in-loop-at.result.now in
    let size = length-map found.folders.items (λ (n : Vec ℕ Global). n.items) in
    let below : c.loop-at.at < length found.folders.items =
    grind (arith, before.1.fits, c.if-at-len.false, c.len.ensures, size) in
    let here : folder ≡ get_or (items_of found.folders.items) c.loop-at.at folder =
    c.as_slice-in-loop-at.ensures.value ∙ c.in_ok-folder.ensures ∙ c.as_slice.ensures.value
    ∙ ap (λ (n : Vec ℕ Global). n.items) c.index.ensures
    ∙ sym (get_or-map (λ (n : Vec ℕ Global). n.items) found.folders.items c.loop-at.at
    c.index.result.now folder below) in
    record {
      walked = (
        before.0 ++ (listed.0 ∷ []),
        walked_to-next_folder w (items_of c.args.given.now) c.args.session.now c.loop-at.session
            c.list_folder.new.session (items_of found.folders.items) (items_of found.files.items)
            (items_of found.others.items) (items_of new.folders.items) (items_of new.files.items)
            (items_of new.others.items) c.loop-at.at before.0 c.loop-at.are_listed
            c.in_ok-is_listed.is_listed listed.0 folder (omega (arith, below, size)) here before.1 listed.1 listed.2 listed.3
            listed.4 listed.5,
      );
      held = c.in_ok-is_listed.ensures.held ∙ c.loop-at.invariant.held;
    }
