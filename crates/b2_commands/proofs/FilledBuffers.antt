-- A buffer that is filled from its front, and what a hasher absorbs of it.
use Rattle.std.proofs.Common.{◌≡◌, ℕ, ◌+◌, ◌-◌, ◌≤◌, List, ◌++◌, length, take, refl, sym, ap, ◌∙◌}
use Rattle.std.proofs.Common.{arith, append_assoc, length-append}
use Rattle.std.proofs.Math.Seq.{take-append-add}
use Rattle.std.proofs.lemmas.List.{length-take-le, take-take}
use Rattle.std.proofs.lemmas.Slice.{take-put_mid}
use Rattle.blake2_tree.specs.declared.hasher.TreeHasher.{TreeHasher}
use Rattle.blake2_tree.specs.TreeHashers.{future, HasAbsorbed}
use borrow.Rule.Slice.PartMut.{put_mid}

-- n bytes are written after the first i.
pub take-after_put_mid : (a ys : List ℕ) (i n : ℕ) → i ≤ length a → length ys ≡ length a - i
    → n ≤ length ys
    → take (i + n) (put_mid i (length a - i) a ys) ≡ take i a ++ take n ys
take-after_put_mid a ys i n within long few =
    let k : ℕ = length a - i in
    let front : length (take i a) ≡ i = length-take-le i a within in
    let whole : take (i + length ys) (put_mid i k a ys) ≡ take i a ++ ys =
    take-put_mid i k a ys (i + length ys) refl within in
    sym (take-take (i + n) (i + length ys) (put_mid i k a ys) (omega arith))
    ∙ ap (take (i + n)) whole
    ∙ ap (λ (m : ℕ). take (m + n) (take i a ++ ys)) (sym front) ∙ take-append-add (take i a) ys n

-- ---- absorbing

pub HasAbsorbed-trans : {n : ℕ} (a b c : TreeHasher n) (x y : List ℕ) → HasAbsorbed a x b
    → HasAbsorbed b y c
    → HasAbsorbed a (x ++ y) c
HasAbsorbed-trans a b c x y first second = record {
  shared = second.shared ∙ first.shared;
  future = λ z. second.future z ∙ first.future (y ++ z) ∙ ap (future a) (sym (append_assoc x y z));
  count = omega (arith, first.count, second.count, length-append x y);
}
