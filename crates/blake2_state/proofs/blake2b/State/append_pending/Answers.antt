use Rattle.std.proofs.Common.{ℕ, ◌+◌, ◌-◌, ◌++◌, List, length, take, refl, sym, ap, ◌∙◌, arith}
use Rattle.std.proofs.lemmas.List.{length-take}
use Rattle.std.proofs.lemmas.Slice.{take-put_mid}
use Rattle.blake2_state.proofs.StateLaws.{Updated-if_input_becomes_pending}
use Rattle.blake2_state.proofs.blake2b.State.append_pending.Goals as goal

pub returns-clause-updated : goal.returns-clause-updated
returns-clause-updated c =
    let n : ℕ = c.args.self.now.pending_length in
    let held : List ℕ = c.args.self.now.pending in
    let m : ℕ = n + length c.args.input.now in
    let is = c.copy_from_slice.ensures.after in
    Updated-if_input_becomes_pending _ _ _ (omega (arith, length-take n held, c.requires.room))
    (take-put_mid n (m - n) held _ m (ap (λ (z : List ℕ). n + length z) (sym is)) (omega arith)
    ∙ ap (λ (z : List ℕ). take n held ++ z) is)
    refl refl
