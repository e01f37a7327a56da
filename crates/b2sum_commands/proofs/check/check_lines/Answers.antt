use Rattle.std.proofs.Common.{◌≡◌, ◌⊎◌, ◌==◌, inl, inr, ◌<◌, Bool, length, [], List, ℕ, Option}
use Rattle.std.proofs.Common.{refl, ap, ◌∙◌, subst, is_none, rules}
use Rattle.std.specs.Io.KnownBytes.{Consumes}
use Rattle.b2sum_commands.specs.World.{Streams}
use Rattle.b2sum_commands.specs.LineReads.{source_left, source_name_or_dash, SourceIsAfterLine}
use Rattle.b2sum_commands.specs.Manifests.{LineIsChecked, StopsInLine}
use Rattle.b2sum_commands.specs.declared.line_reader.LineEnd.TheVariants.{Newline}
use Rattle.b2sum_commands.proofs.FilesAhead.{none_found}
use Rattle.b2sum_commands.proofs.EndedByErrors.{stopped-before_next_line, stopped-in_next_line}
use Rattle.b2sum_commands.proofs.EndedByErrors.{nonempty_line_has_bytes}
use Rattle.b2sum_commands.specs.World.{world_of, OpenFileHasFailed}
use Rattle.b2sum_commands.proofs.Verdicts.{no_bytes}
use Rattle.b2sum_commands.proofs.CheckedLines.{read_so_far-start, input_read_to-unchanged_streams}
use Rattle.b2sum_commands.proofs.CheckedLines.{lines_checked-at_end, found_last}
use Rattle.b2sum_commands.proofs.CheckedLines.{lines_checked-with_next_line}
use Rattle.b2sum_commands.proofs.CheckedLines.{line_check-keeps_source, line_read-from_same_name}
use Rattle.b2sum_commands.proofs.check.check_lines.Goals.{
  else-ne-via-then-ne+else-is_empty,
  else-ne-via-else-ne,
}
use Rattle.b2sum_commands.proofs.check.check_lines.Goals as goal

pub number-init : goal.number-init
number-init g c = record {
  file = refl;
  name = refl;
  read = (
    [],
    read_so_far-start _ _ _ _ _ _ c.requires,
    c.none-counts.ensures,
  );
  ahead = none_found (g.D.Disk.files c.args.host.now.disk) g.H.Hashes.hashing c.args.options.now
      c.new-ahead.result.found.items c.new-ahead.ensures;
}

pub returns-then-is_empty-clause-lines : goal.returns-then-is_empty-clause-lines
returns-then-is_empty-clause-lines g c =
    let before = c.number.invariant.read in
    let left = g.D.File.OpenFile.left in
    let now = c.number.session in
    let at : left c.session.inside.input ≡ now.left =
    ap (λ (s : Streams). s.left) c.session.view_is in
    let read = line_read-from_same_name g.D.File.OpenFile.named g.D.File.OpenFile.failed _ _ _ _ _ _
    _
    (source_name_or_dash g.D.File.OpenFile.named c.args.manifest.now.file) c.number.invariant.name
    c.in_ok-end.ensures.passes in
    let same = input_read_to-unchanged_streams (is_none c.args.manifest.now.file) _ now
    (left c.read_line.new.input)
    (ap (λ (s : Streams). record s { left = left c.read_line.new.input }) c.session.view_is)
    (λ file. ap left (c.in_ok-end.ensures.other (c.number.invariant.file ∙ file)) ∙ at) in
    lines_checked-at_end _ _ _ _ c.args.session.now _ _ now before.0 c.in_ok-end.end read.0
    c.read_line.new.line.items _ read.1 _ _ _ c.number.counts c.counted.result before.1
    before.2 (subst (λ (l : Option (List ℕ)). Consumes
    (source_left left c.number.manifest.file l) read.1 read.0) at read.2) read.3 read.4
    (λ is. search (rules, is)) (no_bytes _ (search rules))
    (record { last = c.counted.ensures.last; failure = c.counted.ensures.failure }) same

pub returns-then-ne-2-clause-lines : goal.returns-then-ne-2-clause-lines
returns-then-ne-2-clause-lines g c =
    let before = c.number.invariant.read in
    let left = g.D.File.OpenFile.left in
    let now = c.number.session in
    let at : left c.session.inside.input ≡ now.left =
    ap (λ (s : Streams). s.left) c.session.view_is in
    let read = line_read-from_same_name g.D.File.OpenFile.named g.D.File.OpenFile.failed _ _ _ _ _ _
    _
    (source_name_or_dash g.D.File.OpenFile.named c.args.manifest.now.file) c.number.invariant.name
    c.in_ok-end.ensures.passes in
    let same = input_read_to-unchanged_streams (is_none c.args.manifest.now.file) _ now
    (left c.read_line.new.input)
    (ap (λ (s : Streams). record s { left = left c.read_line.new.input }) c.session.view_is)
    (λ file. ap left (c.in_ok-end.ensures.other (c.number.invariant.file ∙ file)) ∙ at) in
    let w = world_of c.args.host.now.program.name.items
    g.D.File.OpenFile.named g.D.File.OpenFile.failed
    g.D.File.OpenFile.failure (g.D.Disk.files c.args.host.now.disk)
    g.H.Hashes.hashing in
    let o = c.args.options.now in
    let input : Bool = is_none c.args.manifest.now.file in
    let mid : Streams = record {
      left = left c.read_line.new.input;
      held = g.K.Sink.held c.session.inside.output;
      told = g.E.Sink.held c.session.inside.messages;
      output_failed = g.K.Sink.failed c.session.inside.output;
      output_error = g.K.Output.failure c.session.inside.output;
      messages_failed = g.E.Sink.failed c.session.inside.messages;
      place = record {
        name = c.session.inside.place.name.items;
        spacing = c.session.inside.place.spacing;
        number = c.session.inside.place.number;
      };
    } in
    let new : Streams = c.check_line.new.session in
    let v = c.in_ok-verdict.verdict in
    let items : List ℕ = c.read_line.new.line.items in
    let file : is_none c.read_line.new.self.file ≡ input =
    c.in_ok-end.ensures.same ∙ c.number.invariant.file in
    let line : LineIsChecked w o input items mid new v =
    subst (λ (xs : List ℕ). LineIsChecked w o input xs mid new v) c.as_slice-text.ensures.value
    (subst (λ (b : Bool). LineIsChecked w o b c.as_slice-text.result.now mid new v)
    (c.is_input-is_input.ensures ∙ file)
    c.in_ok-verdict.ensures.checked) in
    let some : 0 < length c.read_line.new.line.items = elim c.else-ne.branch [
      | else-ne-via-then-ne+else-is_empty w ↦ search (rules, w.is_empty.ensures, w.if-is_empty)
      | else-ne-via-else-ne w ↦ absurd (search (rules, w.if-ne, c.if-ne-2.true))
    ] in
    let stays = line_check-keeps_source left c.read_line.new.self.file w o input items mid new v
    file line in
    found_last w o input _ c.args.session.now _ _ now before.0 c.in_ok-end.end read.0
    items c.read_line.new.self.lines read.1 _ _ mid new v
    c.number.counts c.add.new.self c.counted-then-ne-2.result before.1
    before.2 (subst (λ (l : Option (List ℕ)). Consumes
    (source_left left c.number.manifest.file l) read.1 read.0) at read.2) read.3
    (subst (λ (l : Option (List ℕ)). SourceIsAfterLine c.in_ok-end.end read.1 l
    (OpenFileHasFailed g.D.File.OpenFile.named g.D.File.OpenFile.failed
    (source_name_or_dash g.D.File.OpenFile.named c.args.manifest.now.file))) stays read.4)
    (λ is. search (rules, is)) some (record {
      last = c.counted-then-ne-2.ensures.last;
      failure = c.counted-then-ne-2.ensures.failure;
    }) same line c.add.ensures

pub number-preserved : goal.number-preserved
number-preserved g c =
    let before = c.number.invariant.read in
    let left = g.D.File.OpenFile.left in
    let now = c.number.session in
    let at : left c.session.inside.input ≡ now.left =
    ap (λ (s : Streams). s.left) c.session.view_is in
    let read = line_read-from_same_name g.D.File.OpenFile.named g.D.File.OpenFile.failed _ _ _ _ _ _
    _
    (source_name_or_dash g.D.File.OpenFile.named c.args.manifest.now.file) c.number.invariant.name
    c.in_ok-end.ensures.passes in
    let same = input_read_to-unchanged_streams (is_none c.args.manifest.now.file) _ now
    (left c.read_line.new.input)
    (ap (λ (s : Streams). record s { left = left c.read_line.new.input }) c.session.view_is)
    (λ file. ap left (c.in_ok-end.ensures.other (c.number.invariant.file ∙ file)) ∙ at) in
    let w = world_of c.args.host.now.program.name.items
    g.D.File.OpenFile.named g.D.File.OpenFile.failed
    g.D.File.OpenFile.failure (g.D.Disk.files c.args.host.now.disk)
    g.H.Hashes.hashing in
    let o = c.args.options.now in
    let input : Bool = is_none c.args.manifest.now.file in
    let mid : Streams = record {
      left = left c.read_line.new.input;
      held = g.K.Sink.held c.session.inside.output;
      told = g.E.Sink.held c.session.inside.messages;
      output_failed = g.K.Sink.failed c.session.inside.output;
      output_error = g.K.Output.failure c.session.inside.output;
      messages_failed = g.E.Sink.failed c.session.inside.messages;
      place = record {
        name = c.session.inside.place.name.items;
        spacing = c.session.inside.place.spacing;
        number = c.session.inside.place.number;
      };
    } in
    let new : Streams = c.check_line.new.session in
    let v = c.in_ok-verdict.verdict in
    let items : List ℕ = c.read_line.new.line.items in
    let file : is_none c.read_line.new.self.file ≡ input =
    c.in_ok-end.ensures.same ∙ c.number.invariant.file in
    let line : LineIsChecked w o input items mid new v =
    subst (λ (xs : List ℕ). LineIsChecked w o input xs mid new v) c.as_slice-text.ensures.value
    (subst (λ (b : Bool). LineIsChecked w o b c.as_slice-text.result.now mid new v)
    (c.is_input-is_input.ensures ∙ file)
    c.in_ok-verdict.ensures.checked) in
    let stays = line_check-keeps_source left c.read_line.new.self.file w o input items mid new v
    file line in
    record {
      file = file;
      name = c.in_ok-end.ensures.name ∙ c.number.invariant.name;
      read = lines_checked-with_next_line w o input _ c.args.session.now _ _ now before.0
          c.in_ok-end.end read.0
          items _ read.1 _ _ mid new v
          c.number.counts c.add.new.self before.1
          before.2 (subst (λ (l : Option (List ℕ)). Consumes
          (source_left left c.number.manifest.file l) read.1 read.0) at read.2) read.3
          (subst (λ (l : Option (List ℕ)). SourceIsAfterLine c.in_ok-end.end read.1 l
          (OpenFileHasFailed g.D.File.OpenFile.named g.D.File.OpenFile.failed
          (source_name_or_dash g.D.File.OpenFile.named c.args.manifest.now.file))) stays read.4)
          (search rules) same line c.add.ensures;
      ahead = c.go_on_after.ensures;
    }

pub go_on_after-requires : goal.go_on_after-requires
go_on_after-requires g c = c.number.invariant.ahead

pub returns-in_err-end-clause-stopped : goal.returns-in_err-end-clause-stopped
returns-in_err-end-clause-stopped g c = λ _.
    let before = c.number.invariant.read in
    stopped-before_next_line _ _ _ _ _ c.args.session.now _ _ c.number.session _ before.0 before.1
    (ap (λ (s : Streams). s.held) c.session.view_is)

pub returns-in_err-verdict-clause-stopped : goal.returns-in_err-verdict-clause-stopped
returns-in_err-verdict-clause-stopped g c = λ _.
    let before = c.number.invariant.read in
    let left = g.D.File.OpenFile.left in
    let now = c.number.session in
    let at : left c.session.inside.input ≡ now.left =
    ap (λ (s : Streams). s.left) c.session.view_is in
    let read = line_read-from_same_name g.D.File.OpenFile.named g.D.File.OpenFile.failed _ _ _ _ _ _
    _
    (source_name_or_dash g.D.File.OpenFile.named c.args.manifest.now.file) c.number.invariant.name
    c.in_ok-end.ensures.passes in
    let same = input_read_to-unchanged_streams (is_none c.args.manifest.now.file) _ now
    (left c.read_line.new.input)
    (ap (λ (s : Streams). record s { left = left c.read_line.new.input }) c.session.view_is)
    (λ file. ap left (c.in_ok-end.ensures.other (c.number.invariant.file ∙ file)) ∙ at) in
    let w = world_of c.args.host.now.program.name.items
    g.D.File.OpenFile.named g.D.File.OpenFile.failed
    g.D.File.OpenFile.failure (g.D.Disk.files c.args.host.now.disk)
    g.H.Hashes.hashing in
    let o = c.args.options.now in
    let input : Bool = is_none c.args.manifest.now.file in
    let mid : Streams = record {
      left = left c.read_line.new.input;
      held = g.K.Sink.held c.session.inside.output;
      told = g.E.Sink.held c.session.inside.messages;
      output_failed = g.K.Sink.failed c.session.inside.output;
      output_error = g.K.Output.failure c.session.inside.output;
      messages_failed = g.E.Sink.failed c.session.inside.messages;
      place = record {
        name = c.session.inside.place.name.items;
        spacing = c.session.inside.place.spacing;
        number = c.session.inside.place.number;
      };
    } in
    let new : Streams = c.check_line.new.session in
    let items : List ℕ = c.read_line.new.line.items in
    let file : is_none c.read_line.new.self.file ≡ input =
    c.in_ok-end.ensures.same ∙ c.number.invariant.file in
    let begun : StopsInLine w o input items mid new =
    subst (λ (xs : List ℕ). StopsInLine w o input xs mid new) c.as_slice-text.ensures.value
    (subst (λ (b : Bool). StopsInLine w o b c.as_slice-text.result.now mid new)
    (c.is_input-is_input.ensures ∙ file)
    (c.in_err-verdict.ensures.begun refl)) in
    let len : c.read_line.new.line.len ≡ length c.read_line.new.line.items =
    search (rules, c.read_line.new.line.ok) in
    let some : (c.in_ok-end.end ≡ Newline) ⊎ (0 < length c.read_line.new.line.items) =
    elim c.else-ne.branch [
      | else-ne-via-then-ne+else-is_empty w ↦ inr
          (nonempty_line_has_bytes c.read_line.new.line.items _
          (w.is_empty.ensures ∙ ap (λ (n : ℕ). n == 0) len) w.if-is_empty.false)
      | else-ne-via-else-ne w ↦ inl (search (rules, w.if-ne))
    ] in
    stopped-in_next_line w o _ input _ c.args.session.now _ _ now before.0 c.in_ok-end.end read.0
    items
    c.read_line.new.self.lines read.1 _ mid new before.1
    (subst (λ (l : Option (List ℕ)). Consumes
    (source_left left c.number.manifest.file l) read.1 read.0) at read.2) read.3 read.4 some
    same begun

pub returns-clause-stopped : goal.returns-clause-stopped
returns-clause-stopped g c = λ _.
    let before = c.number.invariant.read in
    stopped-before_next_line _ _ _ _ _ c.args.session.now _ _ c.number.session _ before.0 before.1
    refl
