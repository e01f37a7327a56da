-- What `==` means for two transcripts of the code.
use Rattle.std.proofs.Common.{◌≡◌, ℕ, List, Bool, true, false, ◌&&◌, ◌↔◌, IsTrue, nat_eq, refl}
use Rattle.std.proofs.Common.{rules}
use lib.Pointwise.{pointwise, pointwise_decides, bytes_decides}
use mathlib.Core.Bool.{beq}
use Rattle.blake2_transcript.specs.declared.steps.Entry as GivenEntry

-- Whether two entries pass the test of equality.
abbrev pub equal_entry : {B : ℕ} → GivenEntry.Entry B → GivenEntry.Entry B → Bool
equal_entry x y = pointwise nat_eq x.block y.block
    && (nat_eq x.counter y.counter && (beq x.last y.last && beq x.last_node y.last_node))

-- The test of two entries returns whether they are equal.
equal_entry-decides_equality : {B : ℕ} (x y : GivenEntry.Entry B)
    → (equal_entry x y ≡ true → x ≡ y) × (x ≡ y → equal_entry x y ≡ true)
equal_entry-decides_equality x y = search rules

-- Two tests together decide two facts.
and-decides_both : (p q : Bool) (P Q : Type 0) → (p ≡ true → P) × (P → p ≡ true)
    → (q ≡ true → Q) × (Q → q ≡ true) → IsTrue (p && q) ↔ (P × Q)
and-decides_both true true P Q f g = (λ t. (f.0 refl, g.0 refl), λ w. refl)
and-decides_both true false P Q f g = (λ t. absurd cc, λ w. g.1 w.1)
and-decides_both false q P Q f g = (λ t. absurd cc, λ w. f.1 w.0)

-- The test of words and entries returns whether both are equal.
pub pointwise_test-decides_equality : {B : ℕ} (u v : List ℕ) (xs ys : List (GivenEntry.Entry B))
    (r : Bool)
    → r ≡ (pointwise nat_eq u v && pointwise equal_entry xs ys)
    → IsTrue r ↔ ((u ≡ v) × (xs ≡ ys))
pointwise_test-decides_equality u v xs ys r e =
    rw e (and-decides_both (pointwise nat_eq u v) (pointwise equal_entry xs ys)
    (u ≡ v) (xs ≡ ys) (bytes_decides u v) (pointwise_decides equal_entry-decides_equality xs ys))
