use Rattle.std.proofs.Common.{arith}
use Rattle.b2_commands.proofs.print.print_digest.Goals as goal

pub print_bytes-requires-clause-size : goal.print_bytes-requires-clause-size
print_bytes-requires-clause-size g c = omega (arith, c.requires.size, c.told-digest)
