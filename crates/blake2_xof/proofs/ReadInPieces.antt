-- What is read from a list in pieces.
use Rattle.std.proofs.Common.{◌≡◌, ℕ, zero, suc, ◌+◌, ◌≤◌, List, [], ◌∷◌, ◌++◌, length, take, drop}
use Rattle.std.proofs.Common.{refl, sym, ap, ◌∙◌, arith, length-append, length-drop}
use Rattle.std.proofs.lemmas.List.{length-take-le, take_all, take_at}

-- The first d elements, and then r more.
pub take-add : (d r : ℕ) (s : List ℕ) → take (d + r) s ≡ take d s ++ take r (drop d s)
take-add zero r s = ap (λ (n : ℕ). take n s) (omega arith)
take-add (suc d) zero [] =
    let next : suc d + 0 ≡ suc d = omega arith in
    ap (λ (n : ℕ). take {A = ℕ} n []) next
take-add (suc d) (suc r) [] =
    let next : suc d + suc r ≡ suc (d + suc r) = omega arith in
    ap (λ (n : ℕ). take {A = ℕ} n []) next
take-add (suc d) r (x ∷ s) =
    let next : suc d + r ≡ suc (d + r) = omega arith in
    ap (λ (n : ℕ). take n (x ∷ s)) next ∙ ap (λ (l : List ℕ). x ∷ l) (take-add d r s)

-- r elements more of s are written after the first d.
pub prefix-extended_by_read : (s out new : List ℕ) (d r : ℕ) → take d out ≡ take d s
    → d + r ≤ length out
    → length new ≡ length out → new ≡ take d out ++ (take r (drop d s) ++ drop r (drop d out))
    → take (d + r) new ≡ take (d + r) s
prefix-extended_by_read s out new d r before within same is =
    let some : List ℕ = take r (drop d s) in
    let rest : List ℕ = drop r (drop d out) in
    let front : length (take d out) ≡ d = length-take-le d out (omega arith) in
    let read : length some ≡ r = omega (
      arith,
      ap length is,
      length-append (take d out) (some ++ rest),
      length-append some rest,
      length-drop r (drop d out),
      length-drop d out,
    ) in
    ap (take (d + r)) is
    ∙ take-add d r (take d out ++ (some ++ rest))
    ∙ (λ i. take_at (take d out) (some ++ rest) d front i
    ++ take r (drop_front (take d out) (some ++ rest) d front i))
    ∙ (λ i. before i ++ take_at some rest r read i)
    ∙ sym (take-add d r s)
  where
    drop_front : (x y : List ℕ) (n : ℕ) → length x ≡ n → drop n (x ++ y) ≡ y
    drop_front [] y zero e = refl
    drop_front [] y (suc n) e = absurd (omega arith)
    drop_front (a ∷ x) y zero e = absurd (omega arith)
    drop_front (a ∷ x) y (suc n) e = drop_front x y n (omega arith)

-- All of them.
pub whole_prefix-is_output : (s out : List ℕ) (d : ℕ) → take d out ≡ take d s → length out ≡ d
    → out ≡ take d s
whole_prefix-is_output s out d before long = sym (take_all d out (omega arith)) ∙ before
