use Rattle.std.proofs.Common.{◌≡◌, drop}
use Rattle.std.specs.List.{list_all}
use Rattle.b2sum_commands.specs.Quoting.{is_plain_in_double_quotes}
use Rattle.b2sum_commands.proofs.quoting.all_plain_in_double_quotes.Given as goal

abbrev pub invariant-loop-byte : goal.invariant-loop-byte
invariant-loop-byte l = list_all is_plain_in_double_quotes (drop l.byte-index l.bytes)
    ≡ list_all is_plain_in_double_quotes l.bytes
