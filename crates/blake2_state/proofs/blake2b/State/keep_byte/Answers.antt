use Rattle.std.proofs.Common.{ℕ, List, refl, arith}
use Rattle.std.proofs.lemmas.List.{length-take, take_more_set}
use Rattle.blake2_state.proofs.StateLaws.{Updated-if_input_becomes_pending}
use Rattle.blake2_state.proofs.blake2b.State.keep_byte.Goals as goal

pub returns-clause-updated : goal.returns-clause-updated
returns-clause-updated c =
    let n : ℕ = c.args.self.now.pending_length in
    let held : List ℕ = c.args.self.now.pending in
    Updated-if_input_becomes_pending _ _ _ (omega (arith, length-take n held, c.requires.room))
    (take_more_set held n c.args.byte (omega arith)) refl refl
