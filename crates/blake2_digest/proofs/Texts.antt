-- Lists of bytes, one after the other, and lists with trailing zeros.
use Rattle.std.proofs.Common.{◌≡◌, ℕ, zero, suc, ◌-◌, List, [], ◌∷◌, ◌++◌, length, take, drop}
use Rattle.std.proofs.Common.{replicate, refl, ap}
use Rattle.std.proofs.lemmas.List.{drop-replicate, take_at}
use Rattle.std.proofs.Math.Seq.{drop-append_seam}
use Rattle.blake2_digest.specs.Texts.{AreBytes, padded}

-- Bytes followed by bytes are bytes.
pub AreBytes-append : (xs ys : List ℕ) → AreBytes xs → AreBytes ys → AreBytes (xs ++ ys)
AreBytes-append [] ys a b i = b i
AreBytes-append (x ∷ xs) ys a b zero = a 0
AreBytes-append (x ∷ xs) ys a b (suc i) = AreBytes-append xs ys (λ j. a (suc j)) b i

-- A list written over the beginning of n zeros.
pub zeros_overwritten : (n : ℕ) (xs : List ℕ) → xs ++ drop (length xs) (replicate n 0) ≡ padded n xs
unfolding padded
zeros_overwritten n xs = ap (λ (z : List ℕ). xs ++ z) (drop-replicate (length xs) n 0)

-- The list before the zeros.
pub take-padded : (n : ℕ) (xs : List ℕ) → take (length xs) (padded n xs) ≡ xs
unfolding padded
take-padded n xs = take_at xs (replicate (n - length xs) 0) (length xs) refl

-- The zeros after the list.
pub drop-padded : (n : ℕ) (xs : List ℕ) → drop (length xs) (padded n xs)
    ≡ replicate (n - length xs) 0
unfolding padded
drop-padded n xs = drop-append_seam xs (replicate (n - length xs) 0)
