-- Made by tools/twins.py from proofs/compress/blake2b/rounds/Answers.antt.
use Rattle.blake2_compress.specs.Hash.{after_rounds}
use Rattle.blake2_compress.proofs.compress.blake2s.rounds.Goals as goal

pub returns : goal.returns
unfolding after_rounds
returns c = cc
