use Rattle.std.proofs.Common.{ℕ, List, Option, Some, Vec, Global, IfSome, ap, sym, subst, ◌∙◌}
use Rattle.std.specs.Option.{option_map}
use Rattle.b2sum_lines.specs.ManifestLines.{max_bytes}
use Rattle.b2sum_commands.specs.declared.options.Options.{Options}
use Rattle.b2sum_commands.specs.ProgramRuns.{ReadsOnlyKey, TellsNoKey, WarnsIfKeyIsDigits}
use Rattle.b2sum_commands.specs.ProgramRuns.{derived_or_same_key, max_key_bytes}
use Rattle.b2sum_commands.specs.World.{FileHasKey, Streams, world_of}
use Rattle.b2sum_commands.specs.ProgramRuns.{key_file_bytes}
use Rattle.b2sum_commands.proofs.EndedByErrors.{IfSome-holds_for_value}
use Rattle.b2sum_commands.proofs.KeyFiles.{key_read-from_key_file, key_read-if_no_key_file}
use Rattle.b2sum_commands.proofs.program.with_key.Goals as goal

pub returns-in_default-clause-keyed : goal.returns-in_default-clause-keyed
returns-in_default-clause-keyed g c = λ ch are given.
    let w = world_of c.args.host.now.program.name.items g.D.File.OpenFile.named
    g.D.File.OpenFile.failed g.D.File.OpenFile.failure (g.D.Disk.files c.args.host.now.disk)
    g.H.Hashes.hashing in
    key_read-if_no_key_file w ch c.args.options c.args.session.now c.args.key_file c.in_default.is
    given

pub returns-in_default-key-clause-keyless : goal.returns-in_default-key-clause-keyless
returns-in_default-key-clause-keyless g c = λ _.
    let w = world_of c.args.host.now.program.name.items g.D.File.OpenFile.named
    g.D.File.OpenFile.failed g.D.File.OpenFile.failure (g.D.Disk.files c.args.host.now.disk)
    g.H.Hashes.hashing in
    let old : Streams = c.args.session.now in
    let new : Streams = c.read_key.new.session in
    let hex = c.args.options.key_is_hex in
    record {
      name = c.in-Some.name.items;
      named = ap (option_map (λ (n : Vec ℕ Global). n.items)) c.in-Some.is;
      told = subst (λ (n : List ℕ). TellsNoKey w n hex (max_key_bytes c.args.options) old new)
          c.as_slice.ensures.value
          (subst (λ (most : ℕ). TellsNoKey w c.as_slice.result.now hex most old new)
          c.max_key_bytes.ensures.is (c.in_ok-key.ensures.told c.in_default-key.is));
      kept = c.in_ok-key.ensures.held;
    }

pub returns-clause-keyed : goal.returns-clause-keyed
returns-clause-keyed g c = λ ch are given.
    let w = world_of c.args.host.now.program.name.items g.D.File.OpenFile.named
    g.D.File.OpenFile.failed g.D.File.OpenFile.failure (g.D.Disk.files c.args.host.now.disk)
    g.H.Hashes.hashing in
    let old : Streams = c.args.session.now in
    let read : Streams = c.read_key.new.session in
    let new : Streams = c.warn_if_digits.new.session in
    let o : Options = record c.args.options { key = c.in_ok-options.field-0 } in
    let key = c.in-Some-key.key in
    let shown : List ℕ = c.as_slice.result.now in
    key_read-from_key_file w ch o old read new c.args.key_file c.in-Some.name shown key.items
    c.in-Some.is given
    c.as_slice.ensures.value
    (subst (λ (most : ℕ). FileHasKey (key_file_bytes w.files old.left shown) o.key_is_hex most
    key.items)
    c.max_key_bytes.ensures.is
    (IfSome-holds_for_value _ _ key c.in-Some-key.is c.in_ok-key.ensures.key))
    (c.in_ok-options.ensures
    ∙ ap (λ (context : Option (List ℕ)). derived_or_same_key w.hashing context
    (max_bytes o.algorithm) key.items)
    are.context)
    (subst (λ (f : Option (Vec ℕ Global)). IfSome f (λ _. ReadsOnlyKey (Some shown) old read))
    c.in-Some-key.is c.in_ok-key.ensures.kept)
    (subst (λ (n : List ℕ). WarnsIfKeyIsDigits w.program (Some n) o.key_is_hex key.items read new)
    (c.as_slice-2.ensures.value ∙ sym c.as_slice.ensures.value)
    (subst (λ (k : List ℕ). WarnsIfKeyIsDigits w.program (Some c.as_slice-2.result.now) o.key_is_hex
    k
    read new) c.as_slice-3.ensures.value c.in_ok-warn_if_digits.ensures.told))
