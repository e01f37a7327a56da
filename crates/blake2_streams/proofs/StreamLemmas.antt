-- What follows when one more piece passes from a source to a hasher, or from a buffer to a sink.
use Rattle.std.proofs.Common.{◌≡◌, ℕ, zero, suc, Bool, true, false, ◌||◌, ◌&&◌, ◌==◌, List, ◌++◌}
use Rattle.std.proofs.Common.{refl, sym, ap, ◌∙◌}
use Rattle.std.proofs.Common.{arith, append_assoc, length-append}
use Rattle.std.proofs.Math.Dec.{eqb-suc-zero}
use Rattle.blake2_digest.specs.States.{Meaning, Updated}

-- Absorbing two inputs in turn is absorbing both joined.
pub Updated-trans : {S : Type 0} (m : Meaning S) (old mid new : S) (x y : List ℕ)
    → Updated m old x mid → Updated m mid y new → Updated m old (x ++ y) new
Updated-trans m old mid new x y p q = record {
  future = λ flag z. q.future flag z ∙ p.future flag (y ++ z)
      ∙ ap (m.future old flag) (sym (append_assoc x y z));
  started = λ flag z. q.started flag z ∙ p.started flag z;
  last_node = q.last_node ∙ p.last_node;
  count = omega (arith, p.count, q.count, length-append x y);
  start_count = q.start_count ∙ p.start_count;
}

-- A sink that accepted some bytes has not failed.
pub unfailed-if_bytes_accepted : (old new some : Bool) (n : ℕ) → old ≡ false → (n ≡ 0 → ⊥)
    → new ≡ (old || (n == 0 && some)) → new ≡ false
unfailed-if_bytes_accepted true new some n is_old moves is_new = cc
unfailed-if_bytes_accepted false new some zero is_old moves is_new = absurd (moves refl)
unfailed-if_bytes_accepted false new some (suc n) is_old moves is_new =
    is_new ∙ ap (λ b. b && some) (eqb-suc-zero n)
