-- Made by tools/twins.py from proofs/laws/derivations_differ_blake2xb/Answers.antt.
use Rattle.blake2_simd.specs.Family.{blake2s}
use Rattle.blake2_xof.proofs.Derivations.{derivations_differ}
use Rattle.blake2_xof.proofs.laws.derivations_differ_blake2xs.Goals as goal

pub returns : goal.returns
returns c = derivations_differ blake2s
