use Rattle.std.proofs.Common.{◌≡◌, ◌+◌, ◌-◌, ◌/◌, ◌%◌, ◌++◌, List, ℕ, drop, take, ap, ◌∙◌, arith}
use Rattle.blake2_simd.specs.Family.{blake2b}
use Rattle.blake2_xof.specs.Blake2xb.{settings_of}
use Rattle.blake2_xof.proofs.OutputBlocks.{take_of_block-is_take_of_output}
use Rattle.blake2_xof.proofs.reader.blake2xb.Reader.read_from_block.Goals as goal

pub returns-clause-output : goal.returns-clause-output
returns-clause-output c =
    let self = c.args.self.now in
    let count : ℕ = c.min-count.result in
    let from : ℕ = self.position % 64 in
    let long : from + count - from ≡ count = omega arith in
    ap (λ (l : List ℕ). l ++ drop count c.args.out.now) (c.copy_from_slice.ensures.after
    ∙ ap (λ (n : ℕ). take n (drop from c.block-block.result)) long
    ∙ take_of_block-is_take_of_output blake2b (settings_of self) self.root c.block-block.result
    self.position count
    (self.position / 64) from (omega arith) (omega arith) (omega arith) (omega arith)
    c.block-block.ensures)
