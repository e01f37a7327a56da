use Rattle.std.proofs.Common.{ℕ, ◌^◌, List, ap, rules, subst}
use Rattle.b2sum_commands.specs.World.{Streams, world_of}
use Rattle.b2sum_commands.proofs.KeyFiles.{found_by_both-combine, none_found}
use Rattle.b2sum_commands.proofs.SealedChecks.{OpenListIsNotRead}
use Rattle.b2sum_commands.proofs.WalkedFolders.{folder_listed-if_read_or_told}
use Rattle.b2sum_commands.proofs.folders.read_folder.Goals as goal

pub returns-clause-listed : goal.returns-clause-listed
returns-clause-listed g c =
    let w = world_of c.args.host.now.program.name.items g.D.File.OpenFile.named
    g.D.File.OpenFile.failed g.D.File.OpenFile.failure (g.D.Disk.files c.args.host.now.disk)
    g.H.Hashes.hashing in
    let folder : List ℕ = c.args.folder.now in
    let old : Streams = c.args.session.now in
    let new : Streams = record {
      left = g.D.File.OpenFile.left c.session.inside.input;
      held = g.K.Sink.held c.session.inside.output;
      told = g.E.Sink.held c.read_list_from.new.messages;
      output_failed = g.K.Sink.failed c.session.inside.output;
      output_error = g.K.Output.failure c.session.inside.output;
      messages_failed = g.E.Sink.failed c.read_list_from.new.messages;
      place = record {
        name = c.session.inside.place.name.items;
        spacing = c.session.inside.place.spacing;
        number = c.session.inside.place.number;
      };
    } in
    let left = g.D.File.OpenFile.left c.in-Ok.list in
    let r = c.read_list_from.result in
    folder_listed-if_read_or_told w folder left (g.D.File.OpenFile.left c.read_list_from.new.file)
    old new r
    c.in-Ok.ensures.bytes c.read_list_from.ensures.text
    (found_by_both-combine r _ _ _ (λ list text same. search (rules, same, c.session.view_is))
    c.read_list_from.ensures.text c.read_list_from.ensures.kept)
    (ap (λ (s : Streams). record s { told = new.told; messages_failed = new.messages_failed })
    c.session.view_is)
    (none_found r _ _
    (λ told. subst (λ (s : Streams). OpenListIsNotRead w folder (2 ^ 28) left s new)
    c.session.view_is told) c.read_list_from.ensures.told)
