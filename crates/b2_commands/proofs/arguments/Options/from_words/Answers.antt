use Rattle.std.proofs.Common.{◌<◌, ◌∙◌, length, arith, map}
use Rattle.std.specs.String.{string_bytes}
use Rattle.std.proofs.lemmas.Result.{err_from_is_err_and}
use Rattle.b2_commands.specs.ReadOptions.{given_options}
use Rattle.b2_commands.specs.ArgumentTasks.{nothing_given, with_option, with_options}
use Rattle.b2_commands.proofs.WordLemmas.{with_options-next_word, with_options-fault_of_next}
use Rattle.b2_commands.proofs.WordLemmas.{IsReadingFault-transfer}
use Rattle.b2_commands.proofs.arguments.Options.from_words.Goals as goal

pub loop-word-preserved : goal.loop-word-preserved
loop-word-preserved c =
    let below : c.loop-word.word-index < length c.args.words.now = omega arith in
    with_options-next_word c.args.takes_key c.args.words.now c.loop-word.word-index
    c.word-item.result
    c.as_str.result.now (given_options c.loop-word.options)
    (record {
      below = below;
      is_word = c.word-item.is;
      is_text = c.as_str.ensures.value;
      before = c.loop-word.invariant;
    })
    ∙ c.in_ok-take_word.ensures.taken

pub returns-in_err-take_word-clause-fault : goal.returns-in_err-take_word-clause-fault
returns-in_err-take_word-clause-fault c =
    let below : c.loop-word.word-index < length c.args.words.now = omega arith in
    let given = given_options c.loop-word.options in
    let text = c.as_str.result.now in
    let fault = c.in_err-take_word.field-0.0 in
    let exit = err_from_is_err_and c.from_residual.result c.from_residual.ensures.1 in
    rw (exit.1, exit.2) (
    IsReadingFault-transfer fault (with_option c.args.takes_key given text)
    (with_options c.args.takes_key nothing_given (map string_bytes c.args.words.now))
    (with_options-fault_of_next c.args.takes_key c.args.words.now c.loop-word.word-index
    c.word-item.result
    text given fault
    (record {
      below = below;
      is_word = c.word-item.is;
      is_text = c.as_str.ensures.value;
      before = c.loop-word.invariant;
    }))
    c.in_err-take_word.ensures.fault
    )
