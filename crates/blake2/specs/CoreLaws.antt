-- What every block core must guarantee: it absorbs two lists of blocks as it absorbs both joined,
-- and it counts each block.
use Rattle.std.proofs.Common.{◌≡◌, ℕ, ◌+◌, ◌*◌, List, [], ◌++◌, length, refl, arith, length-append}
use Rattle.blake2_simd.specs.Family.{Family, block_bytes}
use Rattle.blake2_compress.specs.Hash.{chain}
use Rattle.blake2_compress.proofs.SplitRuns.{chain-append}
use Rattle.blake2.specs.Cores.{CoreState, absorbed}

-- A core absorbs two lists in turn as it absorbs both joined.
pub absorbed-append : (f : Family) (core : CoreState) (xs ys : List (List ℕ))
    → absorbed f core (xs ++ ys) ≡ absorbed f (absorbed f core xs) ys
unfolding absorbed
absorbed-append f core xs ys =
    let number : length (xs ++ ys) ≡ length xs + length ys = length-append xs ys in
    let order : block_bytes f * length xs ≡ length xs * block_bytes f = omega arith in
    let words : chain f core.h core.count (xs ++ ys) (length (xs ++ ys))
    ≡ chain f (chain f core.h core.count xs (length xs))
    (core.count + block_bytes f * length xs) ys (length ys) =
    rw (number, order) (chain-append f core.h core.count (length xs) xs ys (length ys) refl) in
    let bytes : core.count + block_bytes f * length (xs ++ ys)
    ≡ core.count + block_bytes f * length xs + block_bytes f * length ys =
    rw number (omega arith) in
    λ i. record core { h = words i; count = bytes i }

-- A core is unchanged by no blocks.
pub absorbed-nil : (f : Family) (core : CoreState) → absorbed f core [] ≡ core
unfolding absorbed chain
absorbed-nil f core =
    let none : core.count + block_bytes f * 0 ≡ core.count = omega arith in
    λ i. record core { count = none i }

-- The count grows by the bytes of each block.
pub count-absorbed : (f : Family) (core : CoreState) (xs : List (List ℕ))
    → (absorbed f core xs).count ≡ core.count + block_bytes f * length xs
unfolding absorbed
count-absorbed f core xs = refl
