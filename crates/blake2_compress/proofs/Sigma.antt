-- Each number of SIGMA is below 16.
use Rattle.std.proofs.Common.{◌≡◌, ℕ, zero, suc, ◌<◌, true, List, [], ◌∷◌, get_or, nat_lt, refl}
use Rattle.std.proofs.Common.{arith}
use Rattle.std.proofs.lemmas.Bool.{and_parts}
use Rattle.std.specs.List.{list_all}
use borrow.Author.Tests.{ltb-true}
use Rattle.blake2_simd.specs.Family.{sigma}

-- A row that passes the test has numbers below 16.
row-below_16 : (xs : List ℕ) → list_all (λ x. nat_lt x 16) xs ≡ true → (k : ℕ) → get_or xs k 0 < 16
row-below_16 [] h k = omega arith
row-below_16 (x ∷ xs) h zero = ltb-true x 16 (and_parts _ _ h).0
row-below_16 (x ∷ xs) h (suc k) = row-below_16 xs (and_parts _ _ h).1 k

-- If a table passes the test, each of its rows has numbers below 16.
table-below_16 : (xs : List (List ℕ))
    → list_all (λ (row : List ℕ). list_all (λ x. nat_lt x 16) row) xs
    ≡ true → (r k : ℕ) → get_or (get_or xs r []) k 0 < 16
table-below_16 [] h r k = omega arith
table-below_16 (x ∷ xs) h zero k = row-below_16 x (and_parts _ _ h).0 k
table-below_16 (x ∷ xs) h (suc r) k = table-below_16 xs (and_parts _ _ h).1 r k

-- SIGMA has numbers below 16.
pub sigma-below_16 : (r k : ℕ) → get_or (get_or sigma r []) k 0 < 16
sigma-below_16 = table-below_16 sigma refl
