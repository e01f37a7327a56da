use Rattle.b2sum_commands.proofs.StopsOfParts.{stop_printed-does_command_line}
use Rattle.b2sum_commands.proofs.StopsOfParts.{arguments_done-does_command_line}
use Rattle.b2sum_commands.proofs.program.run_words.Goals as goal

pub returns-in-Ok-clause-line : goal.returns-in-Ok-clause-line
returns-in-Ok-clause-line g c =
    arguments_done-does_command_line _ _ _ _ c.in-Ok.arguments c.args.session.now
    c.run_task.new.session _
    c.in-Ok.ensures.arguments c.run_task.ensures.choice

pub returns-in-Err-clause-line : goal.returns-in-Err-clause-line
returns-in-Err-clause-line g c =
    stop_printed-does_command_line _ _ _ _ c.args.session.now c.print_stop.new.session c.in-Err.stop
    _
    c.in-Err.ensures.stop c.print_stop.ensures.printed
