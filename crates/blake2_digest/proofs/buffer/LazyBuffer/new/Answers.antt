use Rattle.std.proofs.Common.{length, take, drop, ap, ◌∙◌}
use Rattle.blake2_digest.proofs.Texts.{take-padded, drop-padded}
use Rattle.blake2_digest.proofs.buffer.LazyBuffer.new.Goals as goal

pub invariant_of-result : goal.invariant_of-result
invariant_of-result g c =
    let n = length c.args.pending.now in (
      c.requires.nonzero,
      c.requires.fits,
      ap (drop n) c.padded.ensures ∙ drop-padded g.row.B c.args.pending.now,
    )

pub returns : goal.returns
returns g c = ap (take (length c.args.pending.now)) c.padded.ensures
    ∙ take-padded g.row.B c.args.pending.now
