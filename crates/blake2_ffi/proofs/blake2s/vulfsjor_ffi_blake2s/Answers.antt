-- Made by tools/twins.py from proofs/blake2b/vulfsjor_ffi_blake2b/Answers.antt.
use Rattle.std.proofs.Common.{None, arith, refl}
use Rattle.blake2.specs.Family.{blake2s}
use Rattle.blake2_compress.proofs.InputBlocks.{counted_without_key}
use Rattle.blake2_ffi.proofs.blake2s.vulfsjor_ffi_blake2s.Goals as goal

pub write_digest-requires-clause-counted : goal.write_digest-requires-clause-counted
write_digest-requires-clause-counted c =
    omega (arith, counted_without_key blake2s None c.args.input.now refl)
