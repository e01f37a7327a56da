use Rattle.std.proofs.Common.{◌∙◌, take, length, sym, ap, subst, rules}
use Rattle.blake2_digest.proofs.Texts.{take-padded}
use Rattle.blake2_compress.specs.Hash.{AreBytes}
use Rattle.blake2_tree.proofs.kept_salt.KeptSalt.new.Goals as goal

pub invariant_of-result : goal.invariant_of-result
invariant_of-result c =
    let text = c.args.text.now in
    let kept = ap (take (length text)) c.padded.ensures ∙ take-padded 16 text in
    let bytes : AreBytes text = search rules in
    (c.requires, subst AreBytes (sym kept) bytes)

pub returns : goal.returns
returns c =
    ap (take (length c.args.text.now)) c.padded.ensures ∙ take-padded 16 c.args.text.now
