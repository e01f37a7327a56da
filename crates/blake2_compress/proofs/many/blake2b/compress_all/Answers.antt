use Rattle.std.proofs.Common.{◌-◌, ℕ, length, ap, arith}
use Rattle.blake2_simd.specs.Family.{blake2b}
use Rattle.blake2_compress.specs.Hash.{block_count, input_data}
use Rattle.blake2_compress.specs.Lanes.{input_at}
use Rattle.blake2_compress.proofs.ManyMessages.{last_chain-of_input}
use Rattle.blake2_compress.proofs.SplitRuns.{block_count-positive}
use Rattle.blake2_compress.proofs.many.blake2b.compress_all.Goals as goal

pub compress_all_but_last-requires-clause-same_number : goal.compress_all_but_last-requires-clause-same_number
compress_all_but_last-requires-clause-same_number c j h =
    ap (block_count blake2b) (c.requires.same_count j h)

pub compress_at-requires-clause-within : goal.compress_at-requires-clause-within
compress_at-requires-clause-within c j h =
    let same = ap (block_count blake2b) (c.requires.same_count j h) in
    let some =
    block_count-positive blake2b (length (input_data blake2b (input_at c.args.inputs.now j)))
    in
    omega (arith, c.step_count.ensures, same, some)

pub returns : goal.returns
returns c j h =
    last_chain-of_input blake2b c.args.inputs.now j _ _ _ _ _ _ (c.requires.same_count j h)
    (c.compress_all_but_last.ensures j h) (c.compress_at.ensures j h) (c.last_flags-flags.ensures j h)
    (ap (λ (m : ℕ). m - 1) c.step_count.ensures) c.counted.ensures
