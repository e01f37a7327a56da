use Rattle.std.proofs.Common.{Bool, ◌&&◌, [], ◌∷◌, ◌++◌, refl, ap, ◌∙◌, sym, arith}
use Rattle.b2sum_commands.proofs.OneMore.{list_all-append}
use Rattle.b2sum_commands.proofs.DoneInTurn.{done_so_far-next_name, done_so_far-all_names}
use Rattle.b2sum_commands.proofs.DoneInTurn.{done_so_far-start}
use Rattle.b2sum_commands.proofs.folder_checks.look_for.Goals as goal

pub loop-thing-init : goal.loop-thing-init
loop-thing-init g c = record
    { looked = λ all same. ([], done_so_far-start _ _ _, refl); held = refl }

pub loop-thing-preserved : goal.loop-thing-preserved
loop-thing-preserved g c =
    let one : Bool = c.in_ok-is_there.is_there in
    record {
      looked = λ all same.
          let before = c.loop-thing.invariant.looked all same in (
            before.0 ++ (one ∷ []),
            done_so_far-next_name _ c.args.things.now _ c.loop-thing.thing-index c.thing-item.result
                c.thing-item.result.items c.loop-thing.session c.look_for_one.new.session before.0
                one c.loop-thing-test.true c.thing-item.is refl before.1
                (c.in_ok-is_there.ensures.looked all same),
            ap (λ b. b && one) before.2 ∙ sym (list_all-append (λ is. is) before.0 one),
          );
      held = c.in_ok-is_there.ensures.held ∙ c.loop-thing.invariant.held;
    }

pub returns-clause-looked : goal.returns-clause-looked
returns-clause-looked g c = λ all same.
    let before = c.loop-thing.invariant.looked all same in (
      before.0,
      done_so_far-all_names _ c.args.things.now _ c.loop-thing.thing-index c.loop-thing.session
          before.0
          (omega (arith, c.loop-thing-test.false)) before.1,
      before.2,
    )
