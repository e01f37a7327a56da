use Rattle.std.proofs.Common.{rules}
use Rattle.b2_commands.proofs.arguments.Options.take_word.Goals as goal

pub returns-in_err-bytes_of-in-key-clause-fault : goal.returns-in_err-bytes_of-in-key-clause-fault
returns-in_err-bytes_of-in-key-clause-fault c = search rules

pub returns-in_ok-bytes_of-in-key-clause-taken : goal.returns-in_ok-bytes_of-in-key-clause-taken
returns-in_ok-bytes_of-in-key-clause-taken c = search rules
