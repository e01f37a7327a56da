-- Made by tools/twins.py from proofs/reader/blake2xb/Reader/new/Answers.antt.
use Rattle.std.proofs.Common.{length, ap, ◌∙◌, refl}
use Rattle.blake2_compress.proofs.ByteSizes.{length-padded}
use Rattle.blake2_xof.proofs.TextFields.{put_mid-splits_into_two_texts}
use Rattle.blake2_xof.proofs.reader.blake2xs.Reader.new.Goals as goal

pub returns-clause-salt : goal.returns-clause-salt
returns-clause-salt c =
    let is = c.copy_from_slice.ensures.after ∙ c.padded.ensures in
    (put_mid-splits_into_two_texts 8 _ _ _ (ap length is
    ∙ length-padded 8 c.args.salt.now c.requires.salt) refl).0 ∙ is

pub returns-clause-persona : goal.returns-clause-persona
returns-clause-persona c =
    let is = c.copy_from_slice.ensures.after ∙ c.padded.ensures in
    (put_mid-splits_into_two_texts 8 _ _ _ (ap length is
    ∙ length-padded 8 c.args.salt.now c.requires.salt) refl).1
    ∙ c.copy_from_slice-2.ensures.after ∙ c.padded-2.ensures
