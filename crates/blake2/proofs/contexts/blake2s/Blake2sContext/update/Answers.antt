-- Made by tools/twins.py from proofs/contexts/blake2b/Blake2bContext/update/Answers.antt.
use Rattle.std.proofs.Common.{[], refl}
use Rattle.blake2_simd.specs.Family.{blake2s}
use Rattle.blake2.specs.ContextStates.{blake2s_context_state}
use Rattle.blake2.proofs.StateLaws.{invariants-after_update, states-equal_by_parts, Updated_by}
use Rattle.blake2.proofs.contexts.blake2s.Blake2sContext.update.Goals as goal

pub invariant_of-self : goal.invariant_of-self
invariant_of-self c =
    let old = c.args.self.now in
    let kept = invariants-after_update blake2s (blake2s_context_state [] old) _ c.args.input.now
    (states-equal_by_parts c.digest_blocks.ensures.handed c.digest_blocks.ensures.pending refl)
    old.one_block_left c.requires in
    record { within_a_block = kept.0; counted = kept.1; one_block_left = kept.2 }

pub returns : goal.returns
returns c = λ n block.
    Updated_by blake2s n (blake2s_context_state block) c.args.self.now c.args.input.now _
    (states-equal_by_parts c.digest_blocks.ensures.handed c.digest_blocks.ensures.pending refl)
