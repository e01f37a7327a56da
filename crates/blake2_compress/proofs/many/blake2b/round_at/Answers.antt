use Rattle.blake2_compress.proofs.Sigma.{sigma-below_16}
use Rattle.blake2_compress.proofs.many.blake2b.round_at.Goals as goal

pub round_each-requires : goal.round_each-requires
round_each-requires c = λ j _. sigma-below_16 _ j
