-- Made by tools/twins.py from proofs/witness/witness_blake2b/Answers.antt.
use Rattle.std.proofs.Common.{refl}
use Rattle.blake2.specs.Family.{blake2s}
use Rattle.b2_commands.proofs.PrintedInTurn.{witness_printed}
use Rattle.b2_commands.proofs.witness.witness_blake2s.Goals as goal

pub returns-in_ok-print_blake2s-in-Some-clause-lines :
    goal.returns-in_ok-print_blake2s-in-Some-clause-lines
returns-in_ok-print_blake2s-in-Some-clause-lines g c =
    let told = c.witness.ensures in
    let collide = rw (
      c.in-Some.ensures,
      c.unkeyed.ensures.input,
      c.unkeyed-2.ensures.input,
    ) at told.some in
    let pair = rw (
      c.in-Some.ensures,
      c.unkeyed.ensures.input,
      c.unkeyed-2.ensures.input,
    ) at told.pair in
    witness_printed blake2s c.args.output_size _ _ _ _ _ _ _ _
    (collide.0 refl) pair c.in_ok-print_blake2s-in-Some.ensures.line
    c.print_blake2s-in-Some.ensures.line
