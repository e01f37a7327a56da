-- Made by tools/twins.py from proofs/blake2b/write_keyed/Answers.antt.
use Rattle.std.proofs.Common.{◌≤◌, length, arith, rules}
use Rattle.blake2.specs.Family.{blake2s}
use Rattle.blake2_compress.proofs.InputBlocks.{length-data_bytes_with_key}
use Rattle.blake2_ffi.proofs.blake2s.write_keyed.Goals as goal

pub write_digest-requires-clause-counted : goal.write_digest-requires-clause-counted
write_digest-requires-clause-counted c =
    let fits : length c.args.key.now ≤ 32 = search rules in
    omega (arith, length-data_bytes_with_key blake2s c.args.key.now c.args.input.now fits)
