use Rattle.std.proofs.Common.{[], refl}
use Rattle.blake2_simd.specs.Family.{blake2b}
use Rattle.blake2.specs.ContextStates.{blake2b_context_state}
use Rattle.blake2.proofs.StateLaws.{invariants-after_update, states-equal_by_parts, Updated_by}
use Rattle.blake2.proofs.contexts.blake2b.Blake2bContext.update.Goals as goal

pub invariant_of-self : goal.invariant_of-self
invariant_of-self c =
    let old = c.args.self.now in
    let kept = invariants-after_update blake2b (blake2b_context_state [] old) _ c.args.input.now
    (states-equal_by_parts c.digest_blocks.ensures.handed c.digest_blocks.ensures.pending refl)
    old.one_block_left c.requires in
    record { within_a_block = kept.0; counted = kept.1; one_block_left = kept.2 }

pub returns : goal.returns
returns c = λ n block.
    Updated_by blake2b n (blake2b_context_state block) c.args.self.now c.args.input.now _
    (states-equal_by_parts c.digest_blocks.ensures.handed c.digest_blocks.ensures.pending refl)
