-- Made by tools/twins.py from proofs/outputs/blake2xb/print_next/Answers.antt.
use Rattle.std.proofs.Common.{◌∙◌, ◌≤◌, refl, arith, rules, subst, take, drop}
use Rattle.std.specs.Io.KnownBytes.{Appends}
use Rattle.blake2_xof.specs.Blake2xs.{output_now}
use Rattle.b2_commands.specs.PrintedLines.{piece_text}
use Rattle.b2_commands.proofs.PrintedDigits.{Appends-next_piece, Appends-empty_prefix}
use Rattle.b2_commands.proofs.outputs.blake2xs.print_next.Goals as goal

pub printing-init : goal.printing-init
printing-init g c = record {
  ready = c.requires.ready;
  within = omega arith;
  output = refl;
  xof_length = refl;
  position = omega arith;
  unfailed = c.requires.sink;
  printed = Appends-empty_prefix c.args.raw c.args.count _ _;
}

pub printing-preserved : goal.printing-preserved
printing-preserved g c =
    let before = c.printing.invariant in
    let read = c.in_ok-print_piece.ensures in
    let size = c.min-size.result in
    let within : size ≤ c.printing.left = omega (arith, c.min-size.ensures) in
    record {
      ready = read.ready;
      within = omega (arith, before.within);
      output = read.squeezed.output ∙ before.output;
      xof_length = read.squeezed.xof_length ∙ before.xof_length;
      position = omega (arith, read.squeezed.position, before.position, before.within, within);
      unfailed = search rules;
      printed =
          Appends-next_piece c.args.raw (output_now c.args.state.now) c.args.state.now.reader.position
          c.args.count c.printing.left size c.printing.state.reader.position _ _ _ within
          before.within before.position before.printed
          (subst (λ all. Appends (g.K.Sink.held c.printing.sink) (g.K.Sink.held c.print_piece.new.sink)
          (piece_text c.args.raw (take size (drop c.printing.state.reader.position all)))) before.output
          read.bytes);
    }
