use Rattle.std.proofs.Common.{◌≡◌, ℕ, ◌+◌, ◌-◌, ◌≤◌, List, ◌++◌, length, take, drop, replicate, sym}
use Rattle.std.proofs.Common.{ap, ◌∙◌, arith}
use Rattle.std.proofs.lemmas.List.{length-take-le, take-append-drop, replicate-append-replicate}
use Rattle.blake2_digest.proofs.buffer.LazyBuffer.reset.Goals as goal

-- If the first n bytes of a block are zero, and the rest is, the whole block is zero.
block-is_all_zero : (n size : ℕ) (block p : List ℕ) → n ≤ size → length block ≡ size
    → take n block ≡ p
    → p ≡ replicate (length p) 0
    → drop n block ≡ replicate (size - n) 0 → block ≡ replicate (size - 0) 0
block-is_all_zero n size block p fits whole first zeros rest =
    let number : length p ≡ n = sym (ap length first) ∙ length-take-le n block (omega arith) in
    let sum : length p + (size - n) ≡ size - 0 = omega arith in
    let joined : p ++ drop n block ≡ replicate (size - 0) 0 =
    (λ i. zeros i ++ rest i) ∙ replicate-append-replicate (length p) (size - n) 0
    ∙ ap (λ (m : ℕ). replicate m 0) sum in
    sym (take-append-drop n block) ∙ ap (λ (q : List ℕ). q ++ drop n block) first ∙ joined

pub invariant_of-self : goal.invariant_of-self
invariant_of-self g c = (
  c.self.invariant.0,
  omega arith,
  block-is_all_zero c.self.inside.pos g.row.B c.self.inside.bytes _
      c.self.invariant.1 c.self.told c.self.view_is c.wipe.ensures.wiped c.self.invariant.2,
)
