use Rattle.std.proofs.Common.{rules}
use Rattle.b2_commands.proofs.script_lines.ScriptCall.from_line.Goals as goal

pub returns-in-100-clause-call : goal.returns-in-100-clause-call
returns-in-100-clause-call c = search rules
