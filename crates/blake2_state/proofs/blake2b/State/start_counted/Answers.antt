use Rattle.std.proofs.Common.{◌≡◌, length, sym, arith, rules}
use Rattle.std.proofs.lemmas.List.{length-take-le}
use Rattle.blake2_digest.specs.Texts.{padded}
use Rattle.blake2_compress.proofs.ByteSizes.{length-padded}
use Rattle.blake2_state.proofs.blake2b.State.start_counted.Goals as goal

pub returns : goal.returns
returns c =
    let s = c.args.self.now in
    let whole : length s.key ≡ 64 = search rules in
    let block : length (padded 128 s.key) ≡ 128 = length-padded 128 s.key (omega (arith, whole)) in
    sym (length-take-le s.start_length (padded 128 s.key) (omega (arith, block, c.requires.start)))
