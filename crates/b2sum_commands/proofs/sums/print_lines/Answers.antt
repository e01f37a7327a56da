use Rattle.std.proofs.Common.{Bool, ◌&&◌, [], ◌∷◌, ◌++◌, refl, ap, ◌∙◌, sym, arith}
use Rattle.b2sum_commands.proofs.OneMore.{list_all-append}
use Rattle.b2sum_commands.proofs.EndedByErrors.{result_ok-none_after_error}
use Rattle.b2sum_commands.proofs.DoneInTurn.{done_so_far-start, done_so_far-next_name}
use Rattle.b2sum_commands.proofs.DoneInTurn.{stopped_in_turn-at_next_name, done_so_far-all_names}
use Rattle.b2sum_commands.proofs.DoneInTurn.{items_of}
use Rattle.b2sum_commands.proofs.FilesAhead.{none_found}
use Rattle.b2sum_commands.proofs.KeptLines.{list_keeps-nothing_printed, list_keeps-more_printed}
use Rattle.b2sum_commands.specs.World.{world_of, NamesAreDoneInTurn, EndsWithResult}
use Rattle.b2sum_commands.specs.World.{StopsWithoutResult}
use Rattle.b2sum_commands.specs.PrintedSums.{DigestLineIsPrinted}
use Rattle.b2sum_commands.proofs.sums.print_lines.Goals as goal

pub loop-name-init : goal.loop-name-init
loop-name-init g c = record {
  kept = list_keeps-nothing_printed c.args.options.now.is_sealed c.args.session.now.held
      c.args.list.now.items;
  lines = ([], done_so_far-start _ _ _, refl);
  ahead = none_found (g.D.Disk.files c.args.host.now.disk) g.H.Hashes.hashing c.args.options.now
      c.new-ahead.result.found.items c.new-ahead.ensures;
}

pub loop-name-preserved : goal.loop-name-preserved
loop-name-preserved g c =
    let before = c.loop-name.invariant.lines in
    let one : Bool = c.in_ok-is_read.is_read in
    record {
      kept = list_keeps-more_printed c.args.options.now.is_sealed _ _ _ _ _ _
          c.loop-name.invariant.kept
          c.in_ok-is_read.ensures.kept;
      lines = (
        before.0 ++ (one ∷ []),
        done_so_far-next_name _ c.args.names.now _ c.loop-name.name-index c.name-item.result
            c.as_slice.result.now
            c.loop-name.session c.print_sum.new.session before.0 one c.loop-name-test.true c.name-item.is
            c.as_slice.ensures.value before.1 c.in_ok-is_read.ensures.line,
        ap (λ b. b && one) before.2 ∙ sym (list_all-append (λ well. well) before.0 one),
      );
      ahead = c.go_on.ensures;
    }

pub go_on-requires : goal.go_on-requires
go_on-requires g c = c.loop-name.invariant.ahead

pub returns-clause-lines : goal.returns-clause-lines
returns-clause-lines g c =
    let before = c.loop-name.invariant.lines in (
      before.0,
      done_so_far-all_names _ c.args.names.now _ c.loop-name.name-index c.loop-name.session before.0
          (omega (arith, c.loop-name-test.false)) before.1,
      before.2,
    )

pub returns-clause-kept : goal.returns-clause-kept
returns-clause-kept g c = c.loop-name.invariant.kept

pub returns-in_err-is_read-clause-lines : goal.returns-in_err-is_read-clause-lines
returns-in_err-is_read-clause-lines g c =
    let w = world_of c.args.host.now.program.name.items
    g.D.File.OpenFile.named g.D.File.OpenFile.failed
    g.D.File.OpenFile.failure (g.D.Disk.files c.args.host.now.disk)
    g.H.Hashes.hashing in
    let does = DigestLineIsPrinted w c.args.options.now in
    let names = c.args.names.now in
    let before = c.loop-name.invariant.lines in
    result_ok-none_after_error
    (NamesAreDoneInTurn does (items_of names) c.args.session.now c.print_sum.new.session)
    c.from_residual.result _ c.from_residual.ensures.1
    (stopped_in_turn-at_next_name (EndsWithResult does) (StopsWithoutResult does) names
    c.args.session.now c.loop-name.name-index
    c.name-item.result c.as_slice.result.now c.loop-name.session c.print_sum.new.session before.0
    c.loop-name-test.true c.name-item.is c.as_slice.ensures.value before.1
    c.in_err-is_read.ensures.line)
