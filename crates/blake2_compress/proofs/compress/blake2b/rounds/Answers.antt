use Rattle.blake2_compress.specs.Hash.{after_rounds}
use Rattle.blake2_compress.proofs.compress.blake2b.rounds.Goals as goal

pub returns : goal.returns
unfolding after_rounds
returns c = cc
