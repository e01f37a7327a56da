use Rattle.std.proofs.Common.{◌≡◌, [], refl, rules}
use Rattle.blake2.specs.Family.{blake2b}
use Rattle.blake2_digest.specs.States.{Fresh, digest_now}
use Rattle.blake2_state.specs.ConstructorArguments.{counted_key_bytes}
use Rattle.blake2_xof.specs.Blake2xb.{meaning, output_now}
use Rattle.blake2_xof.specs.Xof.{Settings, outputs, settings}
use Rattle.b2_commands.specs.PrintedLines.{output_text}
use Rattle.b2_commands.proofs.OutputLaws.{printed_text-is_xof_output}
use Rattle.b2_commands.proofs.outputs.print_derived.Goals as goal

pub returns-clause-bytes : goal.returns-clause-bytes
returns-clause-bytes g c =
    let a : Settings = settings c.args.size c.args.key.now [] [] in
    let fresh : Fresh meaning (outputs blake2b a) (counted_key_bytes blake2b c.args.key.now)
    c.unwrap-state.result = search rules in
    let now = c.update.new.self in
    let absorbing = c.update.ensures.absorbing in
    let is : output_now now ≡ digest_now meaning now = rw absorbing.absorbs refl in
    printed_text-is_xof_output (output_text c.args.raw) blake2b meaning a _ _ now c.args.context.now
    now.reader.position (output_now now)
    c.print_next.result _ _ c.requires.known c.requires.some fresh c.update.ensures.updated
    absorbing.none_read is c.print_next.ensures.bytes
