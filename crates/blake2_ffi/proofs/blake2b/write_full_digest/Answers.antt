use Rattle.std.proofs.Common.{None, arith, refl, sym, ◌∙◌}
use Rattle.std.proofs.lemmas.List.{take_all}
use Rattle.blake2.specs.Family.{blake2b}
use Rattle.blake2_compress.proofs.InputBlocks.{counted_without_key}
use Rattle.blake2_ffi.proofs.blake2b.write_full_digest.Goals as goal

pub hash-requires-clause-counted : goal.hash-requires-clause-counted
hash-requires-clause-counted c =
    omega (arith, counted_without_key blake2b None c.args.input.now refl)

pub returns : goal.returns
returns c =
    c.copy_from_slice.ensures.after
    ∙ sym (take_all 64 c.hash.result (omega (arith, c.requires.size, c.copy_from_slice.ensures.len)))
    ∙ c.hash.ensures
