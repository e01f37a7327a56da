use Rattle.std.proofs.Common.{◌≡◌, ◌-◌, ℕ, List, [], ◌∷◌, ◌++◌, ◌∙◌, ap, sym, refl, subst}
use Rattle.std.proofs.Common.{append_assoc, append-nil, take, drop, rules}
use Rattle.std.proofs.KnownBytes.{Consumes-nil, Consumes-trans}
use Rattle.text_lines.specs.Cuts.{cut_at}
use Rattle.b2sum_commands.specs.LineReads.{HasNoNewline}
use Rattle.b2sum_commands.proofs.Verdicts.{no_bytes}
use Rattle.b2sum_commands.proofs.CutLines.{slice_cut_at_newline, slice-without_newline}
use Rattle.b2sum_commands.proofs.CutLines.{slice-is_drop_of_take, unread-after_line}
use Rattle.b2sum_commands.proofs.CutLines.{no_newline-append, line_append_unread-no_newline}
use Rattle.b2sum_commands.proofs.line_reader.LineReader.read_line.Goals as goal

pub loop-init : goal.loop-init
loop-init g c = record {
  one = subst HasNoNewline (sym c.clear.ensures.items) (λ k d below. search rules);
  passed = (
    [],
    Consumes-nil _,
    append-nil c.args.self.now ∙ ap (λ xs. xs ++ c.args.self.now) (sym c.clear.ensures.items),
  );
  name = refl;
}

pub returns-in-Some-clause-line : goal.returns-in-Some-clause-line
returns-in-Some-clause-line g c =
    let before = c.loop.invariant in
    let r = c.self.inside in
    let unread : List ℕ = drop r.start (take r.end r.piece.items) in
    let slice : take (r.end - r.start) (drop r.start c.as_slice.result.now) ≡ unread =
    ap (λ xs. take (r.end - r.start) (drop r.start xs)) c.as_slice.ensures.value
    ∙ slice-is_drop_of_take r.piece.items r.start r.end (search rules) in
    let part = c.in-Some.part.now in
    let after = c.in-Some.after.now in
    let cut = slice_cut_at_newline unread c.split_once.result (c.in-Some.part, c.in-Some.after)
    c.in-Some.is (c.split_once.ensures ∙ ap (cut_at 10) slice) in
    let line : c.extend_from_slice.new.self.items ≡ c.loop.line.items ++ part =
    c.in_ok-extend_from_slice.ensures.items in (
      before.passed.0,
      _,
      before.passed.1,
      (
        no_newline-append c.loop.line.items part c.extend_from_slice.new.self.items line before.one
            cut.0,
        before.passed.2 ∙ ap (λ xs. c.loop.line.items ++ xs) (sym c.self.view_is ∙ cut.1)
            ∙ sym (append_assoc c.loop.line.items part (10 ∷ after))
            ∙ ap (λ xs. xs ++ (10 ∷ after)) (sym line)
            ∙ ap (λ xs. c.extend_from_slice.new.self.items ++ (10 ∷ xs))
            (sym (unread-after_line r.piece.items part after r.start r.end (search rules) cut.1).1),
      ),
      refl,
    )

pub returns-in-Err-clause-line : goal.returns-in-Err-clause-line
returns-in-Err-clause-line g c =
    let before = c.loop.invariant in
    let r = c.self.inside in
    let unread : List ℕ = drop r.start (take r.end r.piece.items) in
    let piece : List ℕ = take (r.end - r.start) (drop r.start c.as_slice.result.now) in
    let slice : piece ≡ unread =
    ap (λ (xs : List ℕ). take (r.end - r.start) (drop r.start xs)) c.as_slice.ensures.value
    ∙ slice-is_drop_of_take r.piece.items r.start r.end (search rules) in
    let one = slice-without_newline unread c.split_once.result c.in_default.is
    (c.split_once.ensures ∙ ap (cut_at 10) slice) in
    let line : List ℕ = c.extend_from_slice-in-loop.new.self.items in
    let grown = line_append_unread-no_newline c.args.self.now before.passed.0 c.loop.line.items
    c.loop.self unread piece
    line before.passed.2 c.self.view_is slice c.in_ok-extend_from_slice-2.ensures.items before.one one in
    (before.passed.0, _, before.passed.1, grown, search rules)

pub returns-in-Ok-eq0-clause-line : goal.returns-in-Ok-eq0-clause-line
returns-in-Ok-eq0-clause-line g c =
    let before = c.loop.invariant in
    let r = c.self.inside in
    let unread : List ℕ = drop r.start (take r.end r.piece.items) in
    let piece : List ℕ = take (r.end - r.start) (drop r.start c.as_slice.result.now) in
    let slice : piece ≡ unread =
    ap (λ (xs : List ℕ). take (r.end - r.start) (drop r.start xs)) c.as_slice.ensures.value
    ∙ slice-is_drop_of_take r.piece.items r.start r.end (search rules) in
    let one = slice-without_newline unread c.split_once.result c.in_default.is
    (c.split_once.ensures ∙ ap (cut_at 10) slice) in
    let line : List ℕ = c.extend_from_slice-in-loop.new.self.items in
    let grown = line_append_unread-no_newline c.args.self.now before.passed.0 c.loop.line.items
    c.loop.self unread piece
    line before.passed.2 c.self.view_is slice c.in_ok-extend_from_slice-2.ensures.items before.one one in
    let more = before.passed.0 in
    let read : List ℕ = c.read_piece.new.self in
    let none : read ≡ [] = no_bytes read (search rules) in (
      more ++ read,
      _,
      Consumes-trans _ _ _ more read before.passed.1 (search rules),
      (
        grown.0,
        ap (λ (xs : List ℕ). c.args.self.now ++ (more ++ xs)) none
            ∙ ap (λ (xs : List ℕ). c.args.self.now ++ xs) (append-nil more) ∙ grown.1,
      ),
      (refl, search rules),
    )

pub loop-preserved : goal.loop-preserved
loop-preserved g c =
    let before = c.loop.invariant in
    let r = c.self.inside in
    let unread : List ℕ = drop r.start (take r.end r.piece.items) in
    let piece : List ℕ = take (r.end - r.start) (drop r.start c.as_slice.result.now) in
    let slice : piece ≡ unread =
    ap (λ (xs : List ℕ). take (r.end - r.start) (drop r.start xs)) c.as_slice.ensures.value
    ∙ slice-is_drop_of_take r.piece.items r.start r.end (search rules) in
    let one = slice-without_newline unread c.split_once.result c.in_default.is
    (c.split_once.ensures ∙ ap (cut_at 10) slice) in
    let line : List ℕ = c.extend_from_slice-in-loop.new.self.items in
    let grown = line_append_unread-no_newline c.args.self.now before.passed.0 c.loop.line.items
    c.loop.self unread piece
    line before.passed.2 c.self.view_is slice c.in_ok-extend_from_slice-2.ensures.items before.one one in
    let more = before.passed.0 in
    let read : List ℕ = c.read_piece.new.self in
    record {
      one = grown.0;
      passed = (
        more ++ read,
        Consumes-trans _ _ _ more read before.passed.1 (search rules),
        sym (append_assoc c.args.self.now more read) ∙ ap (λ xs. xs ++ read) grown.1,
      );
      name = c.read_piece.ensures.name ∙ before.name;
    }
