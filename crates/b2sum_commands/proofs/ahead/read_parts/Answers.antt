use Rattle.std.proofs.Common.{◌≡◌, ◌≤◌, ◌-◌, ℕ, List, length, take, drop, arith, ap, sym, subst, ◌∙◌}
use Rattle.std.proofs.lemmas.List.Elements.{All-weaker}
use Rattle.b2sum_commands.specs.ReadAhead.{PartHasFileText, FileHasText}
use Rattle.b2sum_commands.proofs.FilesAhead.{all-pushed_if_memory, file_text-kept_by_equal_prefix}
use Rattle.b2sum_commands.proofs.ahead.read_parts.Goals as goal
use Rattle.b2sum_commands.proofs.ahead.read_parts.Goals.{else-loop-name-test, then-loop-name-test+then-len-most, then-len-most-via-then-len-most, then-len-most-via-else-len-most+then-is_enough, then-loop-name-test+else-len-most+else-is_enough+in_default}

pub loop-name-preserved : goal.loop-name-preserved
loop-name-preserved g c =
    let files = g.D.Disk.files c.args.host.now.disk in
    let room = c.read_part.new.room in
    let end = c.in-Some.end in
    let text = c.in-Some.ensures.text in
    let name = c.in_ok-from_slice.ensures.items ∙ c.as_slice-in-loop-name.ensures.value
    ∙ sym c.as_slice.ensures.value in
    record {
      place = text.1;
      parts = all-pushed_if_memory (PartHasFileText files room end) c.loop-name.parts.items _ _ _
          c.push.ensures.items
          (All-weaker (PartHasFileText files c.loop-name.room c.loop-name.at)
          (PartHasFileText files room end)
          (file_text-kept_by_equal_prefix files room c.loop-name.room c.loop-name.at end
          c.in-Some.ensures.before text.0)
          c.loop-name.parts.items c.loop-name.invariant.parts) (
            text.0,
            omega arith,
            subst (λ (n : List ℕ). FileHasText files n
                (take (end - c.loop-name.at) (drop c.loop-name.at room))) (sym name) text.2,
          );
    }

pub returns : goal.returns
returns g c =
    let files = g.D.Disk.files c.args.host.now.disk in
    let new = c.loop-name-test.room in
    let at = c.loop-name.at in
    let le : at ≤ length new = omega (arith, c.loop-name.invariant.place, c.loop-name-test.auto.room) in
    let all = λ (same : take at new ≡ take at c.loop-name.room).
    All-weaker (PartHasFileText files c.loop-name.room at) (PartHasFileText files new (length new))
    (file_text-kept_by_equal_prefix files new c.loop-name.room at (length new) same le)
    c.loop-name.parts.items
    c.loop-name.invariant.parts in
    elim c.loop-name-test.branch [
      | else-loop-name-test w ↦ all (ap (take at) w.room-is)
      | then-loop-name-test+then-len-most w ↦ all (ap (take at) w.room-is)
      | then-loop-name-test+else-len-most+else-is_enough+in_default w ↦
          all (ap (take at) w.room-is ∙ w.read_part.ensures.before)
    ]
