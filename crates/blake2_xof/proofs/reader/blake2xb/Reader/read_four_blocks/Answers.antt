use Rattle.std.proofs.Common.{◌≡◌, ◌/◌, ◌++◌, List, ℕ, drop, length, false, sym, ap, ◌∙◌}
use Rattle.std.proofs.Common.{arith, rules}
use Rattle.std.proofs.lemmas.List.{length-take-le}
use Rattle.blake2_simd.specs.Family.{blake2b}
use Rattle.blake2_compress.specs.Hash.{bytes_of, compress as F, final}
use Rattle.blake2_xof.specs.Blake2xb.{settings_of}
use Rattle.blake2_xof.proofs.OutputBlocks.{whole_blocks-are_take_of_output}
use Rattle.blake2_xof.proofs.reader.blake2xb.Reader.read_four_blocks.Goals as goal

pub copy_from_slice-requires : goal.copy_from_slice-requires
copy_from_slice-requires c =
    omega (arith, c.as_flattened.ensures.len, length-take-le 256 c.args.out.now c.requires.long)

pub returns-clause-output : goal.returns-clause-output
returns-clause-output c =
    let self = c.args.self.now in
    let long : length self.root ≡ 64 = search rules in
    let four : length c.last_of_four-blocks.result ≡ 4 = search rules in
    ap (λ (l : List ℕ). l ++ drop 256 c.args.out.now) (c.copy_from_slice.ensures.after
    ∙ c.as_flattened.ensures.value
    ∙ whole_blocks-are_take_of_output blake2b (settings_of self) self.root
    c.last_of_four-blocks.result self.position
    (self.position / 64) 4 (omega arith) four (omega arith) (omega arith) (λ j lane.
    c.last_of_four-blocks.ensures j lane
    ∙ (λ i. bytes_of blake2b (F blake2b (c.four_rows-rows.ensures j lane i) (c.padded.ensures i)
    (sym long i) (final false)))))
