use Rattle.std.proofs.Common.{refl, ap, ◌∙◌}
use Rattle.blake2_simd.specs.Family.{blake2b}
use Rattle.blake2_state.specs.States.{named_key_size}
use Rattle.blake2_compress.specs.Views.{given_parameters}
use Rattle.blake2_state.proofs.StateLaws.{Fresh-with_key, named_key_size-of_parameters}
use Rattle.blake2_state.proofs.blake2b.State.under_key.Goals as goal

pub returns-clause-fresh : goal.returns-clause-fresh
returns-clause-fresh c =
    Fresh-with_key _ _ _ (given_parameters c.args.parameters.now) c.args.key.now c.requires.key_size
    c.requires.admitted.fits.key_size c.from_parameters-core.ensures c.first_words-first.ensures
    c.padded-block.ensures c.padded-padded_key.ensures refl refl

pub returns-clause-key : goal.returns-clause-key
returns-clause-key c =
    let parameters = given_parameters c.args.parameters.now in
    ap (named_key_size blake2b) (c.first_words-first.ensures ∙ ap (λ core. core.start) c.from_parameters-core.ensures)
    ∙ named_key_size-of_parameters blake2b parameters c.requires.admitted.fits
