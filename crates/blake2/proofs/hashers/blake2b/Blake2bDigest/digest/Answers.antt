use Rattle.std.proofs.Common.{None, arith, refl}
use Rattle.blake2_simd.specs.Family.{blake2b}
use Rattle.blake2_compress.proofs.InputBlocks.{counted_without_key}
use Rattle.blake2.proofs.hashers.blake2b.Blake2bDigest.digest.Goals as goal

pub hash-requires-clause-counted : goal.hash-requires-clause-counted
hash-requires-clause-counted g c =
    omega (arith, counted_without_key blake2b None c.args.input.now refl)
