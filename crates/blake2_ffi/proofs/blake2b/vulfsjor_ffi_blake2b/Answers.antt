use Rattle.std.proofs.Common.{None, arith, refl}
use Rattle.blake2.specs.Family.{blake2b}
use Rattle.blake2_compress.proofs.InputBlocks.{counted_without_key}
use Rattle.blake2_ffi.proofs.blake2b.vulfsjor_ffi_blake2b.Goals as goal

pub write_digest-requires-clause-counted : goal.write_digest-requires-clause-counted
write_digest-requires-clause-counted c =
    omega (arith, counted_without_key blake2b None c.args.input.now refl)
