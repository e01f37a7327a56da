-- Made by tools/twins.py from proofs/macs/blake2b/Blake2bMac/unkeyed/Answers.antt.
use Rattle.std.proofs.Common.{None, refl, ◌∙◌}
use Rattle.blake2_simd.specs.Family.{blake2s}
use Rattle.blake2_compress.specs.Hash.{key_block, sequential}
use Rattle.blake2.specs.Hashers.{blake2s_mac_state}
use Rattle.blake2.proofs.StateLaws.{states-equal_by_parts, Fresh_by, Fresh_unflagged}
use Rattle.blake2.proofs.macs.blake2s.Blake2sMac.unkeyed.Goals as goal

pub returns : goal.returns
unfolding key_block
returns g c =
    Fresh_unflagged _ _ _ _
    (Fresh_by blake2s g.row.N blake2s_mac_state c.args.salt.now c.args.persona.now None sequential
    0 _ refl (states-equal_by_parts (c.new.ensures.core ∙ c.new_with_params-core.ensures)
    (c.new.ensures.pending ∙ c.default.ensures) c.default-2.ensures))
