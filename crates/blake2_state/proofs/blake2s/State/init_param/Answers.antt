-- Made by tools/twins.py from proofs/blake2b/State/init_param/Answers.antt.
use Rattle.std.proofs.Common.{◌≡◌, length, refl, ap, ◌∙◌, rules}
use Rattle.blake2_simd.specs.Family.{blake2s, word_bytes}
use Rattle.blake2_compress.specs.Hash.{AreBytes}
use Rattle.blake2_compress.proofs.ByteSizes.{AreBytes-take}
use Rattle.blake2_state.specs.States.{named_key_size}
use Rattle.blake2_state.proofs.StateLaws.{Fresh-from_parameter_block}
use Rattle.blake2_state.proofs.StateLaws.{named_key_size-of_parameter_block}
use Rattle.blake2_state.proofs.blake2s.State.init_param.Goals as goal

pub returns-clause-fresh : goal.returns-clause-fresh
returns-clause-fresh c =
    rw c.from_start_words.ensures
    (Fresh-from_parameter_block _ _ _ c.args.block.now refl refl
    (c.to_words.ensures ∙ c.start_of.ensures))

pub returns-clause-key : goal.returns-clause-key
returns-clause-key c =
    let block = c.args.block.now in
    let bytes : AreBytes block = search rules in
    let whole : length block ≡ 32 = search rules in
    let words = c.to_words.ensures ∙ c.start_of.ensures in
    rw c.from_start_words.ensures (ap (named_key_size blake2s) words
    ∙ named_key_size-of_parameter_block blake2s block whole
    (AreBytes-take (word_bytes blake2s) block bytes))
