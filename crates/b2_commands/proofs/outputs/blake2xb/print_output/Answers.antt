use Rattle.std.proofs.Common.{◌≡◌, [], refl, arith}
use Rattle.std.specs.Prelude.{unwrap_or}
use Rattle.blake2.specs.Family.{blake2b}
use Rattle.blake2_digest.specs.States.{digest_now}
use Rattle.blake2_xof.specs.Blake2xb.{meaning, output_now, settings_of}
use Rattle.blake2_xof.specs.Xof.{Settings, settings}
use Rattle.b2_commands.specs.PrintedLines.{output_text}
use Rattle.b2_commands.specs.ReadOptions.{given_options}
use Rattle.b2_commands.specs.ArgumentTasks.{GivenOptions}
use Rattle.b2_commands.proofs.OutputLaws.{output_length-after_update, EndsByPrinting-xof_output}
use Rattle.b2_commands.proofs.PrintedDigits.{Updated-by_all_source_bytes}
use Rattle.b2_commands.proofs.outputs.blake2xb.print_output.Goals as goal

pub print_next-requires-clause-room : goal.print_next-requires-clause-room
print_next-requires-clause-room g c =
    let given : GivenOptions = given_options c.args.options.now in
    let a : Settings = settings c.args.size (unwrap_or given.key []) (unwrap_or given.salt [])
    (unwrap_or given.persona []) in
    let now = c.into_state.result in
    let absorbing = c.into_state.ensures.absorbing in
    let took = rw (← c.into_state.ensures.same) at c.in_ok-absorb_stream.ensures.whole in
    let long =
    output_length-after_update blake2b meaning a (settings_of now.reader) _ c.in_ok-state.state now
    took.0 _
    c.requires.known c.requires.some c.in_ok-state.ensures.fresh took.4
    absorbing.ready.reader.some refl in
    omega (arith, long, absorbing.none_read)

pub returns-clause-ends : goal.returns-clause-ends
returns-clause-ends g c =
    let given : GivenOptions = given_options c.args.options.now in
    let a : Settings = settings c.args.size (unwrap_or given.key []) (unwrap_or given.salt [])
    (unwrap_or given.persona []) in
    let now = c.into_state.result in
    let absorbing = c.into_state.ensures.absorbing in
    let is : output_now now ≡ digest_now meaning now = rw absorbing.absorbs refl in
    let took = rw (← c.into_state.ensures.same) at c.in_ok-absorb_stream.ensures.whole in
    EndsByPrinting-xof_output (output_text c.args.raw) blake2b meaning a _ c.in_ok-state.state now
    now.reader.position (output_now now)
    c.print_next.result _ _ _ c.requires.known c.requires.some c.in_ok-state.ensures.fresh
    (Updated-by_all_source_bytes meaning _ _ _ _ _ took) absorbing.none_read is
    c.print_next.ensures.fault
    c.print_next.ensures.bytes
