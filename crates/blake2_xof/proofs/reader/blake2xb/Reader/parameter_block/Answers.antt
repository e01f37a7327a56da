use Rattle.std.proofs.Common.{◌≡◌, ◌++◌, List, ℕ, length, ap, ◌∙◌, rules}
use Rattle.std.proofs.lemmas.List.{append-nil}
use Rattle.blake2_simd.specs.Family.{blake2b}
use Rattle.blake2_xof.specs.Xof.{block_size, node_offset_field}
use Rattle.blake2_xof.proofs.TextFields.{joined_fields-are_parameter_block}
use Rattle.blake2_xof.proofs.TextFields.{block_fields_before_salt}
use Rattle.blake2_xof.proofs.reader.blake2xb.Reader.parameter_block.Goals as goal

pub returns : goal.returns
returns c =
    let self = c.args.self.now in
    let long : length self.texts ≡ 32 = search rules in
    rw (
      c.copy_from_slice.ensures.after,
      c.copy_from_slice-2.ensures.after,
      c.to_le_bytes.ensures,
      c.block_size.ensures.size,
    ) (ap (λ (l : List ℕ). block_fields_before_salt blake2b
    (block_size blake2b self.xof_length c.args.i)
    (node_offset_field self.xof_length c.args.i) ++ l) (append-nil self.texts)
    ∙ joined_fields-are_parameter_block blake2b self.xof_length c.args.i self.texts long)
