-- Made by tools/twins.py from proofs/compress/blake2b/round_at/Answers.antt.
use Rattle.blake2_compress.proofs.Sigma.{sigma-below_16}
use Rattle.blake2_compress.proofs.compress.blake2s.round_at.Goals as goal

pub round-requires : goal.round-requires
round-requires c = λ j _. sigma-below_16 _ j
