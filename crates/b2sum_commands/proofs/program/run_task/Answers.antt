use Rattle.std.proofs.Common.{inl, inr, refl, subst, ap, ◌∙◌}
use Rattle.std.proofs.Common.{rules}
use Rattle.std.specs.Result.{result_ok}
use Rattle.b2sum_commands.specs.World.{Streams}
use Rattle.b2sum_commands.specs.World.{world_of}
use Rattle.b2sum_commands.specs.ProgramRuns.{DoesTaskOrNotBegun, KeyFileIsRefused, are_short_macs}
use Rattle.b2sum_commands.specs.ProgramRuns.{max_key_bytes}
use Rattle.b2sum_commands.proofs.EndedByErrors.{IfSome-holds_for_value, result_ok-none_after_error}
use Rattle.b2sum_commands.proofs.DoneInTurn.{items_of}
use Rattle.b2sum_commands.proofs.DoneTasks.{task_done, mac_warning-prints_nothing}
use Rattle.b2sum_commands.proofs.program.run_task.Goals as goal

pub returns-in_default-clause-choice : goal.returns-in_default-clause-choice
returns-in_default-clause-choice g c = λ ch are given. inr (
  refl,
  c.args.arguments.options,
  are,
  subst (λ file. KeyFileIsRefused (world_of c.args.host.now.program.name.items
      g.D.File.OpenFile.named g.D.File.OpenFile.failed
      g.D.File.OpenFile.failure (g.D.Disk.files c.args.host.now.disk)
      g.H.Hashes.hashing) file c.args.arguments.options.key_is_hex
      (max_key_bytes c.args.arguments.options)
      c.args.session.now
      c.with_key.new.session) given (c.in_ok-options.ensures.keyless (search rules)),
)

pub returns-clause-choice : goal.returns-clause-choice
returns-clause-choice g c = λ ch are given.
    let w = world_of c.args.host.now.program.name.items
    g.D.File.OpenFile.named g.D.File.OpenFile.failed
    g.D.File.OpenFile.failure (g.D.Disk.files c.args.host.now.disk)
    g.H.Hashes.hashing in
    let o = c.in-Some.options in
    inl (task_done w ch o (items_of c.args.arguments.files.items) c.args.session.now
    c.with_key.new.session c.warn_if_short.new.session c.make_room.new.self
    c.do_task.new.session (result_ok c.do_task.result)
    (IfSome-holds_for_value _ _ o c.in-Some.is (c.in_ok-options.ensures.options ch are given))
    (IfSome-holds_for_value _ _ o c.in-Some.is (c.in_ok-options.ensures.keyed ch are given))
    c.warn_if_short.ensures c.make_room.ensures c.do_task.ensures.done)

pub returns-in_err-options-clause-choice : goal.returns-in_err-options-clause-choice
returns-in_err-options-clause-choice g c = λ ch are given.
    let w = world_of c.args.host.now.program.name.items
    g.D.File.OpenFile.named g.D.File.OpenFile.failed
    g.D.File.OpenFile.failure (g.D.Disk.files c.args.host.now.disk)
    g.H.Hashes.hashing in
    result_ok-none_after_error
    (DoesTaskOrNotBegun w ch (items_of c.args.arguments.files.items) c.args.session.now
    c.with_key.new.session) _ _ c.from_residual.ensures.1
    (inr c.in_err-options.ensures.held)

pub returns-in_err-make_room-clause-choice : goal.returns-in_err-make_room-clause-choice
returns-in_err-make_room-clause-choice g c = λ ch are given.
    let w = world_of c.args.host.now.program.name.items
    g.D.File.OpenFile.named g.D.File.OpenFile.failed
    g.D.File.OpenFile.failure (g.D.Disk.files c.args.host.now.disk)
    g.H.Hashes.hashing in
    result_ok-none_after_error
    (DoesTaskOrNotBegun w ch (items_of c.args.arguments.files.items) c.args.session.now
    c.make_room.new.self) _ _ c.from_residual-in_err-make_room.ensures.1
    (inr (ap (λ (s : Streams). s.held) c.make_room.ensures
    ∙ mac_warning-prints_nothing (are_short_macs c.in-Some.options) w.program c.with_key.new.session
    c.warn_if_short.new.session c.warn_if_short.ensures ∙ c.in_ok-options.ensures.held))
