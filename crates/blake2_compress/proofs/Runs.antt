-- The list of steps agrees with the digest: the result of each step begins the next, and that of
-- the last has the digest.
use Rattle.std.proofs.Common.{◌≡◌, ℕ, suc, ◌+◌, ◌-◌, ◌*◌, ◌<◌, ◌≤◌, true, false, List, length, min}
use Rattle.std.proofs.Common.{refl, sym, ap, arith, get_or, eq-eqb}
use Rattle.std.proofs.lemmas.List.FromFn.{get_or-map-range_with_len, length-map-range_with_len}
use Rattle.std.proofs.lemmas.Bool.{ne_eqb}
use Rattle.std.proofs.Math.Nat.{min-eq_left, min-eq_right}
use Rattle.std.specs.Prelude.{nat_eq}
use Rattle.blake2_simd.specs.Family.{Family, blake2b, blake2s, block_bytes}
use Rattle.blake2_compress.specs.Hash.{input_flags, Flags, Input, input_start, input_data}
use Rattle.blake2_compress.specs.Hash.{last_chain}
use Rattle.blake2_compress.specs.Hash.{chain, blocks, block_count, Step, output, step, steps}
use Rattle.blake2_compress.proofs.SplitRuns.{block_count-positive}
use Rattle.blake2_compress.proofs.JoinedBlocks.{block_count-covers_data}

-- The number of steps is that of the blocks.
pub length-steps : (f : Family) (size : ℕ) (a : Input)
    → length (steps f size a) ≡ block_count f (length (input_data f a))
unfolding steps
length-steps f size a = length-map-range_with_len
    (step f (input_start f size a) (input_data f a) (input_flags a)) 0
    (block_count f (length (input_data f a)))

-- Step i of the list of steps.
pub get_or-steps : (f : Family) (size : ℕ) (a : Input) (i : ℕ) (d : Step)
    → i < block_count f (length (input_data f a))
    → get_or (steps f size a) i d ≡ step f (input_start f size a) (input_data f a) (input_flags a) i
unfolding steps
get_or-steps f size a i d h =
    get_or-map-range_with_len (step f (input_start f size a) (input_data f a) (input_flags a)) 0
    (block_count f (length (input_data f a))) i i d h (omega arith)

-- The blocks before the last are whole.
pub inner_block-is_whole : (f : Family) (m i : ℕ) → i + 1 < block_count f m
    → (i + 1) * block_bytes f ≤ m
inner_block-is_whole blake2b m i h = omega arith
inner_block-is_whole blake2s m i h = omega arith

-- The result of each step except the last begins the next.
pub output-is_next_chain : (f : Family) (h z : List ℕ) (flags : Flags) (i : ℕ)
    → i + 1 < block_count f (length z) → output f (step f h z flags i)
    ≡ (step f h z flags (i + 1)).chain
unfolding chain
output-is_next_chain f h z flags i lt =
    let whole : min ((i + 1) * block_bytes f) (length z) ≡ 0 + (i + 1) * block_bytes f =
    rw (min-eq_left (inner_block-is_whole f (length z) i lt)) (omega arith) in
    let not_last : nat_eq (i + 1) (block_count f (length z)) ≡ false =
    ne_eqb _ _ (λ e. omega arith) in
    let next : i + 1 ≡ suc i = omega arith in
    rw (whole, not_last) (sym (ap (chain f h 0 (blocks f z)) next))

-- The last step's output is the last h.
pub output-of_last_step : (f : Family) (h z : List ℕ) (flags : Flags)
    → output f (step f h z flags (block_count f (length z) - 1)) ≡ last_chain f h 0 z flags
unfolding last_chain
output-of_last_step f h z flags =
    let n : ℕ = block_count f (length z) in
    let at : n - 1 + 1 ≡ n = omega (arith, block_count-positive f (length z)) in
    let all : min (n * block_bytes f) (length z) ≡ 0 + length z =
    rw (min-eq_right (block_count-covers_data f (length z))) (omega arith) in
    let last : nat_eq n n ≡ true = eq-eqb n n refl in
    rw (at, all, last) refl
