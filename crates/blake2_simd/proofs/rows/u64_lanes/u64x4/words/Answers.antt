use Rattle.std.proofs.Common.{arith}
use Rattle.std.proofs.lemmas.Grind.{common_steps}
use Rattle.blake2_simd.proofs.rows.u64_lanes.u64x4.words.Goals as goal

pub returns : goal.returns
returns c = grind (arith, common_steps)
