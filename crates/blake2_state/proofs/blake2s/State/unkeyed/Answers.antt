-- Made by tools/twins.py from proofs/blake2b/State/unkeyed/Answers.antt.
use Rattle.std.proofs.Common.{refl, ap, ◌∙◌}
use Rattle.blake2_simd.specs.Family.{blake2s}
use Rattle.blake2_state.specs.States.{named_key_size}
use Rattle.blake2_compress.specs.Views.{given_parameters}
use Rattle.blake2_state.proofs.StateLaws.{Fresh-without_key, named_key_size-of_parameters}
use Rattle.blake2_state.proofs.blake2s.State.unkeyed.Goals as goal

pub returns-clause-fresh : goal.returns-clause-fresh
returns-clause-fresh c =
    rw c.from_start_words.ensures
    (Fresh-without_key _ _ _ (given_parameters c.args.parameters.now) c.requires.keyless
    c.from_parameters-core.ensures c.first_words.ensures refl refl)

pub returns-clause-key : goal.returns-clause-key
returns-clause-key c =
    let parameters = given_parameters c.args.parameters.now in
    rw c.from_start_words.ensures
    (ap (named_key_size blake2s) (c.first_words.ensures ∙ ap (λ core. core.start) c.from_parameters-core.ensures)
    ∙ named_key_size-of_parameters blake2s parameters c.requires.admitted.fits)
