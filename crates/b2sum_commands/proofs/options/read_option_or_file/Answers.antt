use Rattle.std.proofs.Common.{rules, map}
use Rattle.std.proofs.lemmas.List.{take_rest}
use Rattle.b2sum_commands.specs.CommandLineViews.{state_of_reader}
use Rattle.b2sum_commands.specs.declared.options.Next.TheVariants.{Any}
use Rattle.b2sum_commands.proofs.StopsOfParts.{stop_matches-long_option, stop_matches-short_options}
use Rattle.b2sum_commands.proofs.options.read_option_or_file.Goals as goal

pub returns-then-starts_with-clause-stop : goal.returns-then-starts_with-clause-stop
returns-then-starts_with-clause-stop c =
    stop_matches-long_option
    (state_of_reader c.args.reader.now (map (λ f. f.items) c.args.files.now.items) Any)
    c.args.word.now _ c.read_long_option.result (search rules) (search rules)
    (take_rest c.args.word.now 2)
    c.read_long_option.ensures.stop

pub returns-then-ne-clause-stop : goal.returns-then-ne-clause-stop
returns-then-ne-clause-stop c =
    stop_matches-short_options
    (state_of_reader c.args.reader.now (map (λ f. f.items) c.args.files.now.items) Any)
    c.args.word.now _ c.read_short_options.result (search rules) (search rules) (search rules)
    (search rules) (take_rest c.args.word.now 1) c.read_short_options.ensures.stop
