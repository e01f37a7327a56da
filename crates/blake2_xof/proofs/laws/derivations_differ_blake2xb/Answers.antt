use Rattle.blake2_simd.specs.Family.{blake2b}
use Rattle.blake2_xof.proofs.Derivations.{derivations_differ}
use Rattle.blake2_xof.proofs.laws.derivations_differ_blake2xb.Goals as goal

pub returns : goal.returns
returns c = derivations_differ blake2b
