use Rattle.std.proofs.Common.{None, refl, ◌∙◌}
use Rattle.blake2_simd.specs.Family.{blake2b}
use Rattle.blake2_compress.specs.Hash.{key_block}
use Rattle.blake2_compress.specs.Views.{tree_of}
use Rattle.blake2.specs.Hashers.{blake2b_state}
use Rattle.blake2.proofs.StateLaws.{states-equal_by_parts, Fresh_by}
use Rattle.blake2.proofs.hashers.blake2b.Blake2b.new_with_tree.Goals as goal

pub returns : goal.returns
unfolding key_block
returns g c =
    Fresh_by blake2b g.row.N blake2b_state c.args.salt.now c.args.persona.now None
    (tree_of c.args.tree.now) 0 _ refl (states-equal_by_parts
    (c.new.ensures.core ∙ c.new_with_tree-core.ensures)
    (c.new.ensures.pending ∙ c.default.ensures) refl)
