use Rattle.std.proofs.Common.{◌≡◌, drop}
use Rattle.std.specs.List.{list_all}
use Rattle.b2sum_commands.specs.CommandLine.{is_zero}
use Rattle.b2sum_commands.proofs.values.are_zeros.Given as goal

abbrev pub invariant-loop-byte : goal.invariant-loop-byte
invariant-loop-byte l = list_all is_zero (drop l.byte-index l.bytes) ≡ list_all is_zero l.bytes
