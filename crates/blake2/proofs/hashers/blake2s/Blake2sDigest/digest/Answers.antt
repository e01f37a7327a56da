-- Made by tools/twins.py from proofs/hashers/blake2b/Blake2bDigest/digest/Answers.antt.
use Rattle.std.proofs.Common.{None, arith, refl}
use Rattle.blake2_simd.specs.Family.{blake2s}
use Rattle.blake2_compress.proofs.InputBlocks.{counted_without_key}
use Rattle.blake2.proofs.hashers.blake2s.Blake2sDigest.digest.Goals as goal

pub hash-requires-clause-counted : goal.hash-requires-clause-counted
hash-requires-clause-counted g c =
    omega (arith, counted_without_key blake2s None c.args.input.now refl)
