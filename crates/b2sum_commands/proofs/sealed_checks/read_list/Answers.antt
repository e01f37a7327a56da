use Rattle.std.proofs.Common.{◌≡◌, ℕ, List, Option, true, false, ap, rules, subst}
use Rattle.std.specs.Io.KnownBytes.{Consumes}
use Rattle.b2sum_commands.specs.Messages.{is_standard_input}
use Rattle.b2sum_commands.specs.World.{Streams, world_of}
use Rattle.b2sum_commands.proofs.KeyFiles.{found_by_both-combine, none_found}
use Rattle.b2sum_commands.proofs.SealedChecks.{OpenListIsNotRead, whole_text-of_file}
use Rattle.b2sum_commands.proofs.SealedChecks.{list_unread_told-for_file}
use Rattle.b2sum_commands.proofs.SealedChecks.{whole_text-of_standard_input}
use Rattle.b2sum_commands.proofs.SealedChecks.{list_unread_told-for_standard_input}
use Rattle.b2sum_commands.proofs.StandardInputName.{dash_name}
use Rattle.b2sum_commands.proofs.sealed_checks.read_list.Goals as goal

pub read_list_from-requires : goal.read_list_from-requires
read_list_from-requires g c =
    dash_name c.args.name.now (g.D.File.OpenFile.named c.session.inside.input) c.session.invariant.2
    (search (rules, c.if-is_standard_input.true, c.is_standard_input.ensures))

pub returns-then-is_standard_input-clause-unlisted : goal.returns-then-is_standard_input-clause-unlisted
returns-then-is_standard_input-clause-unlisted g c =
    let w = world_of c.args.host.now.program.name.items g.D.File.OpenFile.named
    g.D.File.OpenFile.failed g.D.File.OpenFile.failure (g.D.Disk.files c.args.host.now.disk)
    g.H.Hashes.hashing in
    let name : List ℕ = c.args.name.now in
    let old : Streams = c.args.session.now in
    let new : Streams = record old {
      told = g.E.Sink.held c.read_list_from.new.messages;
      messages_failed = g.E.Sink.failed c.read_list_from.new.messages;
    } in
    let dash : is_standard_input name ≡ true = search (rules, c.if-is_standard_input.true, c.is_standard_input.ensures) in
    none_found c.read_list_from.result _ _ (λ told. (
      ap (λ (s : Streams). s.held) c.session.view_is,
      list_unread_told-for_standard_input w name c.args.most old new dash
          (subst (λ (s : Streams). OpenListIsNotRead w name c.args.most s.left s new)
          c.session.view_is told),
    )) c.read_list_from.ensures.told

pub returns-then-is_standard_input-clause-text : goal.returns-then-is_standard_input-clause-text
returns-then-is_standard_input-clause-text g c =
    let name : List ℕ = c.args.name.now in
    let old : Streams = c.args.session.now in
    let left : Option (List ℕ) = g.D.File.OpenFile.left c.read_list_from.new.file in
    let dash : is_standard_input name ≡ true = search (rules, c.if-is_standard_input.true, c.is_standard_input.ensures) in
    found_by_both-combine c.read_list_from.result _ _ _ (λ list text same. (
      left,
      search (rules, same, c.session.view_is),
      whole_text-of_standard_input (is_standard_input name) _ old.left left list.items dash
          (subst (λ (l : Option (List ℕ)). Consumes l left list.items)
          (ap (λ (s : Streams). s.left) c.session.view_is) text.0) text.1,
      text.2,
    )) c.read_list_from.ensures.text c.read_list_from.ensures.kept

pub returns-in-Ok-clause-unlisted : goal.returns-in-Ok-clause-unlisted
returns-in-Ok-clause-unlisted g c =
    let w = world_of c.args.host.now.program.name.items g.D.File.OpenFile.named
    g.D.File.OpenFile.failed g.D.File.OpenFile.failure (g.D.Disk.files c.args.host.now.disk)
    g.H.Hashes.hashing in
    let name : List ℕ = c.args.name.now in
    let old : Streams = c.args.session.now in
    let new : Streams = record old {
      told = g.E.Sink.held c.read_list_from-in-Ok.new.messages;
      messages_failed = g.E.Sink.failed c.read_list_from-in-Ok.new.messages;
    } in
    let left : Option (List ℕ) = g.D.File.OpenFile.left c.in-Ok.file in
    let other : is_standard_input name ≡ false = search (rules, c.if-is_standard_input.false, c.is_standard_input.ensures) in
    none_found c.read_list_from-in-Ok.result _ _ (λ told. (
      ap (λ (s : Streams). s.held) c.session.view_is,
      list_unread_told-for_file w name c.args.most left old new other c.in-Ok.ensures.bytes
          (subst (λ (s : Streams). OpenListIsNotRead w name c.args.most left s new)
          c.session.view_is told),
    )) c.read_list_from-in-Ok.ensures.told

pub returns-in-Ok-clause-text : goal.returns-in-Ok-clause-text
returns-in-Ok-clause-text g c =
    let name : List ℕ = c.args.name.now in
    let old : Streams = c.args.session.now in
    let left : Option (List ℕ) = g.D.File.OpenFile.left c.in-Ok.file in
    let other : is_standard_input name ≡ false = search (rules, c.if-is_standard_input.false, c.is_standard_input.ensures) in
    found_by_both-combine c.read_list_from-in-Ok.result _ _ _ (λ list text same. (
      old.left,
      search (rules, same, c.session.view_is),
      whole_text-of_file (is_standard_input name) ((g.D.Disk.files c.args.host.now.disk).holds name)
          old.left left
          (g.D.File.OpenFile.left c.read_list_from-in-Ok.new.file) list.items other
          c.in-Ok.ensures.bytes text.0 text.1,
      text.2,
    )) c.read_list_from-in-Ok.ensures.text c.read_list_from-in-Ok.ensures.kept
