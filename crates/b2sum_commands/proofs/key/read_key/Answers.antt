use Rattle.std.proofs.Common.{◌≡◌, ℕ, Bool, List, Option, true, false, ap, refl, rules, subst, sym}
use Rattle.b2sum_commands.specs.Messages.{is_standard_input}
use Rattle.b2sum_commands.specs.ProgramRuns.{InputIsPastKey}
use Rattle.b2sum_commands.specs.World.{Streams, world_of}
use Rattle.b2sum_commands.proofs.KeyFiles.{OpenFileHasNoKey, found_by_both-combine}
use Rattle.b2sum_commands.proofs.KeyFiles.{no_key_told-for_file, no_key_told-for_standard_input}
use Rattle.b2sum_commands.proofs.KeyFiles.{none_found}
use Rattle.b2sum_commands.proofs.StandardInputName.{dash_name}
use Rattle.b2sum_commands.proofs.key.read_key.Goals as goal

pub read_key_from-requires-clause-most : goal.read_key_from-requires-clause-most
read_key_from-requires-clause-most g c = c.requires.most

pub read_key_from-requires-clause-named : goal.read_key_from-requires-clause-named
read_key_from-requires-clause-named g c =
    dash_name c.args.name.now (g.D.File.OpenFile.named c.session.inside.input) c.session.invariant.2
    (search (rules, c.if-is_standard_input.true, c.is_standard_input.ensures))

pub returns-then-is_standard_input-clause-told : goal.returns-then-is_standard_input-clause-told
returns-then-is_standard_input-clause-told g c =
    let w = world_of c.args.host.now.program.name.items g.D.File.OpenFile.named
    g.D.File.OpenFile.failed g.D.File.OpenFile.failure (g.D.Disk.files c.args.host.now.disk)
    g.H.Hashes.hashing in
    let name : List ℕ = c.args.name.now in
    let old : Streams = c.args.session.now in
    let new : Streams = record old {
      told = g.E.Sink.held c.read_key_from.new.messages;
      messages_failed = g.E.Sink.failed c.read_key_from.new.messages;
    } in
    let dash : is_standard_input name ≡ true = search (rules, c.if-is_standard_input.true, c.is_standard_input.ensures) in
    none_found c.read_key_from.result _ _
    (λ told. no_key_told-for_standard_input w name c.args.form.is_hex c.args.form.most old new
    dash
    (subst (λ (s : Streams). OpenFileHasNoKey w name c.args.form.is_hex c.args.form.most s.left s
    new) c.session.view_is told))
    c.read_key_from.ensures.told

pub returns-then-is_standard_input-clause-kept : goal.returns-then-is_standard_input-clause-kept
returns-then-is_standard_input-clause-kept g c =
    let name : List ℕ = c.args.name.now in
    let old : Streams = c.args.session.now in
    let left : Option (List ℕ) = g.D.File.OpenFile.left c.read_key_from.new.file in
    let dash : is_standard_input name ≡ true = search (rules, c.if-is_standard_input.true, c.is_standard_input.ensures) in
    found_by_both-combine c.read_key_from.result _ _ _ (λ key past same. (
      left,
      search (rules, same, c.session.view_is),
      subst (λ (b : Bool). InputIsPastKey b old.left left) (sym dash)
          (subst (λ (l : Option (List ℕ)). InputIsPastKey true l left)
          (ap (λ (s : Streams). s.left) c.session.view_is) past),
    )) c.read_key_from.ensures.end c.read_key_from.ensures.kept

pub returns-in-Ok-clause-told : goal.returns-in-Ok-clause-told
returns-in-Ok-clause-told g c =
    let w = world_of c.args.host.now.program.name.items g.D.File.OpenFile.named
    g.D.File.OpenFile.failed g.D.File.OpenFile.failure (g.D.Disk.files c.args.host.now.disk)
    g.H.Hashes.hashing in
    let name : List ℕ = c.args.name.now in
    let old : Streams = c.args.session.now in
    let new : Streams = record old {
      told = g.E.Sink.held c.read_key_from-in-Ok.new.messages;
      messages_failed = g.E.Sink.failed c.read_key_from-in-Ok.new.messages;
    } in
    let left : Option (List ℕ) = g.D.File.OpenFile.left c.in-Ok.file in
    let other : is_standard_input name ≡ false = search (rules, c.if-is_standard_input.false, c.is_standard_input.ensures) in
    none_found c.read_key_from-in-Ok.result _ _
    (λ told. no_key_told-for_file w name c.args.form.is_hex c.args.form.most left old new
    other c.in-Ok.ensures.bytes
    (subst (λ (s : Streams). OpenFileHasNoKey w name c.args.form.is_hex c.args.form.most left s new)
    c.session.view_is told))
    c.read_key_from-in-Ok.ensures.told

pub returns-in-Ok-clause-kept : goal.returns-in-Ok-clause-kept
returns-in-Ok-clause-kept g c =
    let name : List ℕ = c.args.name.now in
    let old : Streams = c.args.session.now in
    let other : is_standard_input name ≡ false = search (rules, c.if-is_standard_input.false, c.is_standard_input.ensures) in
    found_by_both-combine c.read_key_from-in-Ok.result _ _ _ (λ key past same. (
      old.left,
      search (rules, same, c.session.view_is),
      subst (λ (b : Bool). InputIsPastKey b old.left old.left) (sym other) refl,
    )) c.read_key_from-in-Ok.ensures.end c.read_key_from-in-Ok.ensures.kept
