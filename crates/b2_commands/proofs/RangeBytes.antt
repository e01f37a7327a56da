-- The digests of a range of leaves are bytes.
use Rattle.std.proofs.Common.{ℕ, zero, suc, ◌+◌, ◌/◌, ◌^◌, Bool, List, [], ◌∷◌, ◌++◌, length, take}
use Rattle.std.proofs.Common.{drop, get_or-drop, arith, mod-lt}
use Rattle.std.specs.Int.{bytes_low_first, to_le_bytes, w64}
use Rattle.std.specs.List.{flat_map, range_with_len}
use Rattle.hex.specs.Hex.{IsBytes}
use Rattle.blake2.specs.Family.{blake2b}
use Rattle.blake2.specs.Hash.{Input, bytes_of, digest}
use Rattle.blake2_tree.specs.TreeRoot.{TreeParameters, leaf_count}
use Rattle.blake2_tree.specs.LeafRanges.{range_digests, range_leaf_input}

-- ---- parts of bytes, and joined bytes

IsBytes-take : (n : ℕ) (xs : List ℕ) → IsBytes xs → IsBytes (take n xs)
IsBytes-take zero xs are i = omega arith
IsBytes-take (suc n) [] are i = omega arith
IsBytes-take (suc n) (x ∷ xs) are zero = are 0
IsBytes-take (suc n) (x ∷ xs) are (suc i) = IsBytes-take n xs (λ j. are (suc j)) i

-- The first n bytes from an offset on.
pub IsBytes-take_drop : (n at : ℕ) (xs : List ℕ) → IsBytes xs → IsBytes (take n (drop at xs))
IsBytes-take_drop n at xs are = IsBytes-take n (drop at xs)
    (λ i. rw (get_or-drop at xs i 0) (are (at + i)))

IsBytes-append : (xs ys : List ℕ) → IsBytes xs → IsBytes ys → IsBytes (xs ++ ys)
IsBytes-append [] ys a b i = b i
IsBytes-append (x ∷ xs) ys a b zero = a 0
IsBytes-append (x ∷ xs) ys a b (suc i) = IsBytes-append xs ys (λ j. a (suc j)) b i

IsBytes-flat_map : (g : ℕ → List ℕ) → ((i : ℕ) → IsBytes (g i)) → (is : List ℕ)
    → IsBytes (flat_map g is)
IsBytes-flat_map g bytes [] k = omega arith
IsBytes-flat_map g bytes (i ∷ is) k =
    IsBytes-append (g i) (flat_map g is) (bytes i) (IsBytes-flat_map g bytes is) k

-- ---- digests

-- The digits of a number in base 256 are bytes.
IsBytes-bytes_low_first : (i n x : ℕ) → IsBytes (bytes_low_first i n x)
IsBytes-bytes_low_first i zero x k = omega arith
IsBytes-bytes_low_first zero (suc n) x zero = omega arith
IsBytes-bytes_low_first (suc i) (suc n) x zero = mod-lt (x / 256 ^ suc i) (omega arith)
IsBytes-bytes_low_first i (suc n) x (suc k) = IsBytes-bytes_low_first (suc i) n x k

IsBytes-digest : (n : ℕ) (a : Input) → IsBytes (digest blake2b n a)
unfolding digest bytes_of
IsBytes-digest n a =
    IsBytes-take n _ (IsBytes-flat_map (to_le_bytes w64) (IsBytes-bytes_low_first 0 8) _)

pub IsBytes-range_digests : (p : TreeParameters) (first : ℕ) (ends : Bool) (x : List ℕ)
    → IsBytes (range_digests p first ends x)
unfolding range_digests
IsBytes-range_digests p first ends x =
    IsBytes-flat_map (λ i. digest blake2b 64 (range_leaf_input p first ends x i))
    (λ i. IsBytes-digest 64 (range_leaf_input p first ends x i))
    (range_with_len 0 (leaf_count p.leaf_length (length x)))
