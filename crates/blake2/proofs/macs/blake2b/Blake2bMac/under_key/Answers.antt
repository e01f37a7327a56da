use Rattle.std.proofs.Common.{◌≡◌, Some, ◌∙◌}
use Rattle.blake2_simd.specs.Family.{blake2b}
use Rattle.blake2_compress.specs.Hash.{key_block, sequential}
use Rattle.blake2.specs.Hashers.{blake2b_mac_state}
use Rattle.blake2.proofs.StateLaws.{states-equal_by_parts, Fresh_by, Fresh_unflagged}
use Rattle.blake2.proofs.StateLaws.{length-key_block_some}
use Rattle.blake2.proofs.macs.blake2b.Blake2bMac.under_key.Goals as goal

pub returns : goal.returns
unfolding key_block
returns g c =
    let key = c.args.key.now in
    let block : c.padded-block.result ≡ key_block blake2b (Some key) = c.padded-block.ensures in
    Fresh_unflagged _ _ _ _
    (Fresh_by blake2b g.row.N blake2b_mac_state c.args.salt.now c.args.persona.now (Some key)
    sequential 128 _ (length-key_block_some blake2b key c.requires.key) (states-equal_by_parts
    (c.new-2.ensures.core ∙ c.new_with_params-core.ensures)
    (c.new-2.ensures.pending ∙ c.new.ensures ∙ block) (c.new-3.ensures ∙ block)))
