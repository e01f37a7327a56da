use Rattle.std.proofs.Common.{◌≡◌, ℕ, Bool, List, Option, Some, Ok, Result, ap, sym, ◌∙◌}
use Rattle.b2sum_lines.specs.EntryViews.{entry_value}
use Rattle.b2sum_lines.specs.ManifestLines.{Line}
use Rattle.b2sum_lines.specs.declared.entry.Spacing.{Spacing}
use Rattle.b2sum_commands.specs.ManifestChecks.{item_value}
use Rattle.b2sum_commands.specs.Manifests.{item, next_place}
use Rattle.b2sum_commands.specs.World.{Streams, world_of}
use Rattle.b2sum_commands.specs.declared.check.Item.{Item}
use Rattle.b2sum_commands.specs.declared.check.Verdict.{Verdict}
use Rattle.b2sum_commands.specs.declared.options.Options.{Options}
use Rattle.b2sum_commands.proofs.EndedByErrors.{stops_in_line-if_in_verdict}
use Rattle.b2sum_commands.proofs.Verdicts.{line_check-of_comment, entry_line}
use Rattle.b2sum_commands.proofs.Verdicts.{line_check-of_unmet_line}
use Rattle.b2sum_commands.proofs.check.check_line.Goals as goal

-- The line is what was read of it, and the place is past it.
record PlaceIsPastLine (o : Options) (input : Bool) (line : List ℕ) (old mid : Streams)
    (i : Option (Result Line Verdict)) : Type 0 where
  is : item o input old.place.spacing line ≡ i
  at : mid ≡ record old { place = next_place old.place i }

place_past_line-from_read : (o : Options) (input : Bool) (line : List ℕ) (old mid : Streams)
    (spacing : Spacing)
    (read : Item) (i : Option (Result Line Verdict)) → spacing ≡ old.place.spacing
    → item_value read ≡ item o input spacing line
    → mid ≡ record old { place = next_place old.place (item_value read) } → item_value read ≡ i
    → PlaceIsPastLine o input line old mid i
place_past_line-from_read o input line old mid spacing read i same value at is = record {
  is = ap (λ (s : Spacing). item o input s line) (sym same) ∙ sym value ∙ is;
  at = at ∙ ap (λ (x : Option (Result Line Verdict)). record old { place = next_place old.place x }) is;
}

pub returns-in-Comment-clause-checked : goal.returns-in-Comment-clause-checked
returns-in-Comment-clause-checked g c =
    let w = world_of c.args.host.now.program.name.items g.D.File.OpenFile.named
    g.D.File.OpenFile.failed g.D.File.OpenFile.failure (g.D.Disk.files c.args.host.now.disk)
    g.H.Hashes.hashing in
    let p = place_past_line-from_read c.args.options.now c.args.is_input c.args.line.now
    c.args.session.now
    c.pass_line.new.session c.spacing-spacing.result c.in_ok-item.item _ c.spacing-spacing.ensures
    c.in_ok-item.ensures.is c.pass_line.ensures (ap item_value c.in-Comment.is) in
    line_check-of_comment w c.args.options.now c.args.is_input c.args.line.now c.args.session.now
    c.pass_line.new.session p.is p.at

pub returns-in_ok-warn_of_unmet-in-Unmet-clause-checked : goal.returns-in_ok-warn_of_unmet-in-Unmet-clause-checked
returns-in_ok-warn_of_unmet-in-Unmet-clause-checked g c =
    let w = world_of c.args.host.now.program.name.items g.D.File.OpenFile.named
    g.D.File.OpenFile.failed g.D.File.OpenFile.failure (g.D.Disk.files c.args.host.now.disk)
    g.H.Hashes.hashing in
    let p = place_past_line-from_read c.args.options.now c.args.is_input c.args.line.now
    c.args.session.now
    c.pass_line.new.session c.spacing-spacing.result c.in_ok-item.item _ c.spacing-spacing.ensures
    c.in_ok-item.ensures.is c.pass_line.ensures (ap item_value c.in-Unmet.is) in
    line_check-of_unmet_line w c.args.options.now c.args.is_input c.args.line.now c.args.session.now
    c.pass_line.new.session c.warn_of_unmet.new.session c.in-Unmet.lacks p.is p.at
    c.warn_of_unmet.ensures.only c.in_ok-warn_of_unmet-in-Unmet.ensures.told

pub returns-in-Listed-clause-checked : goal.returns-in-Listed-clause-checked
returns-in-Listed-clause-checked g c =
    let w = world_of c.args.host.now.program.name.items g.D.File.OpenFile.named
    g.D.File.OpenFile.failed g.D.File.OpenFile.failure (g.D.Disk.files c.args.host.now.disk)
    g.H.Hashes.hashing in
    let p = place_past_line-from_read c.args.options.now c.args.is_input c.args.line.now
    c.args.session.now
    c.pass_line.new.session c.spacing-spacing.result c.in_ok-item.item
    (Some (Ok (entry_value c.in-Listed.entry))) c.spacing-spacing.ensures
    c.in_ok-item.ensures.is c.pass_line.ensures (ap item_value c.in-Listed.is) in
    entry_line w c.args.options.now c.args.is_input c.args.line.now c.args.session.now
    c.pass_line.new.session c.check_entry.new.session (entry_value c.in-Listed.entry)
    c.check_entry.result p.is p.at c.check_entry.ensures.place c.check_entry.ensures.verdict
    c.check_entry.ensures.told c.check_entry.ensures.silent

pub returns-in-Listed-clause-begun : goal.returns-in-Listed-clause-begun
returns-in-Listed-clause-begun g c = λ error.
    let w = world_of c.args.host.now.program.name.items g.D.File.OpenFile.named
    g.D.File.OpenFile.failed g.D.File.OpenFile.failure (g.D.Disk.files c.args.host.now.disk)
    g.H.Hashes.hashing in
    let p = place_past_line-from_read c.args.options.now c.args.is_input c.args.line.now
    c.args.session.now
    c.pass_line.new.session c.spacing-spacing.result c.in_ok-item.item
    (Some (Ok (entry_value c.in-Listed.entry))) c.spacing-spacing.ensures
    c.in_ok-item.ensures.is c.pass_line.ensures (ap item_value c.in-Listed.is) in
    stops_in_line-if_in_verdict w c.args.options.now c.args.is_input c.args.line.now
    c.args.session.now
    c.pass_line.new.session c.check_entry.new.session (entry_value c.in-Listed.entry) _ p.is p.at
    (c.check_entry.ensures.begun error)
