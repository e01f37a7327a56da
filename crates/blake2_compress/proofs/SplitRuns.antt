-- How the run over the blocks splits into what is already compressed and what is still to come.
use Rattle.std.proofs.Common.{◌≡◌, ℕ, zero, suc, ◌+◌, ◌-◌, ◌*◌, ◌<◌, ◌≤◌, ◌⊎◌, List, [], ◌++◌}
use Rattle.std.proofs.Common.{length, drop, refl, sym, ap, ◌∙◌, arith, length-drop, get_or}
use Rattle.std.proofs.lemmas.List.{take-append-le, drop-append-le, drop-drop, get_or_append_left}
use Rattle.std.proofs.lemmas.List.{get_or-append-add}
use Rattle.blake2_simd.specs.Family.{Family, blake2b, blake2s, block_bytes}
use Rattle.blake2_compress.specs.Hash.{Flags, first_blocks, chain, compress, last_chain}
use Rattle.blake2_compress.specs.Hash.{block_count}

-- The number of blocks that are cut is n.
pub length-cut : (f : Family) (n : ℕ) (y : List ℕ) → length (first_blocks f n y) ≡ n
unfolding first_blocks
length-cut f zero y = refl
length-cut f (suc n) y = ap suc (length-cut f n (drop (block_bytes f) y))

-- The first k blocks, and then n more.
pub cut-add : (f : Family) (k n : ℕ) (y : List ℕ)
    → first_blocks f (k + n) y ≡ first_blocks f k y ++ first_blocks f n (drop (k * block_bytes f) y)
unfolding first_blocks
cut-add f zero n y =
    let e : 0 + n ≡ n = omega arith in
    let none : 0 * block_bytes f ≡ 0 = omega arith in
    rw (e, none) refl
cut-add f (suc k) n y =
    let e : suc k + n ≡ suc (k + n) = omega arith in
    let more : suc k * block_bytes f ≡ block_bytes f + k * block_bytes f = omega arith in
    let rest = cut-add f k n (drop (block_bytes f) y) in
    rw (e, more, ← drop-drop (k * block_bytes f) (block_bytes f) y, rest) refl

-- The blocks that y fills are not changed by what follows.
pub cut-prefix : (f : Family) (k : ℕ) (y z : List ℕ) → k * block_bytes f ≤ length y
    → first_blocks f k (y ++ z) ≡ first_blocks f k y
unfolding first_blocks
cut-prefix f zero y z h = refl
cut-prefix f (suc k) y z h =
    let whole : block_bytes f ≤ length y = omega arith in
    let rest = cut-prefix f k (drop (block_bytes f) y) z
    (omega (arith, length-drop (block_bytes f) y)) in
    rw (
      take-append-le (block_bytes f) y z whole,
      drop-append-le (block_bytes f) y z whole,
      rest,
    ) refl

-- `chain` reads only the blocks that it counts.
pub chain-prefix : (f : Family) (h : List ℕ) (c : ℕ) (d e : List (List ℕ)) (i : ℕ) → i ≤ length d
    → chain f h c (d ++ e) i ≡ chain f h c d i
unfolding chain
chain-prefix f h c d e zero fits = refl
chain-prefix f h c d e (suc i) fits =
    rw (chain-prefix f h c d e i (omega arith), get_or_append_left d e [] i fits) refl

-- The blocks d, and then i blocks of e.
pub chain-append : (f : Family) (h : List ℕ) (c k : ℕ) (d e : List (List ℕ)) (i : ℕ) → length d ≡ k
    → chain f h c (d ++ e) (k + i) ≡ chain f (chain f h c d k) (c + k * block_bytes f) e i
unfolding chain
chain-append f h c k d e zero len =
    let s : k + 0 ≡ k = omega arith in
    rw s (chain-prefix f h c d e k (omega arith))
chain-append f h c k d e (suc i) len =
    let s : k + suc i ≡ suc (k + i) = omega arith in
    let n : c + (k + i + 1) * block_bytes f ≡ c + k * block_bytes f + (i + 1) * block_bytes f =
    omega arith in
    let at : get_or (d ++ e) (k + i) [] ≡ get_or e i [] = rw (← len) (get_or-append-add d e i []) in
    rw (s, chain-append f h c k d e i len, at, n) refl

-- The blocks of k whole blocks before m bytes.
pub block_count-add : (f : Family) (k m : ℕ) → (k ≡ 0) ⊎ (0 < m)
    → block_count f (k * block_bytes f + m) ≡ k + block_count f m
block_count-add blake2b k m h = omega arith
block_count-add blake2s k m h = omega arith

-- There is at least one block.
pub block_count-positive : (f : Family) (m : ℕ) → 0 < block_count f m
block_count-positive blake2b m = omega arith
block_count-positive blake2s m = omega arith

-- The chaining words of the last block, if y has n blocks.
abbrev last_chain_with_count : Family → Flags → List ℕ → ℕ → List ℕ → ℕ → List ℕ
last_chain_with_count f flags h c y n = compress f (chain f h c (first_blocks f n y) (n - 1))
    (get_or (first_blocks f n y) (n - 1) []) (c + length y) flags

-- The run over y ends with its last block.
last_chain-by_block_count : (f : Family) (flags : Flags) (h : List ℕ) (c : ℕ) (y : List ℕ)
    → last_chain f h c y flags ≡ last_chain_with_count f flags h c y (block_count f (length y))
unfolding last_chain
last_chain-by_block_count f flags h c y = refl

-- The same, after the first k blocks are compressed.
last_chain_with_count-after_prefix : (f : Family) (flags : Flags) (h : List ℕ) (c k : ℕ)
    (y : List ℕ) (n : ℕ)
    → k * block_bytes f ≤ length y → 0 < n
    → last_chain_with_count f flags h c y (k + n)
    ≡ last_chain_with_count f flags (chain f h c (first_blocks f k y) k)
    (c + k * block_bytes f) (drop (k * block_bytes f) y) n
last_chain_with_count-after_prefix f flags h c k y n fits some =
    let rest : List ℕ = drop (k * block_bytes f) y in
    let place : k + n - 1 ≡ k + (n - 1) = omega arith in
    let size : c + length y ≡ c + k * block_bytes f + length rest =
    omega (arith, length-drop (k * block_bytes f) y) in
    let len : length (first_blocks f k y) ≡ k = length-cut f k y in
    let at : get_or (first_blocks f k y ++ first_blocks f n rest) (k + (n - 1)) []
    ≡ get_or (first_blocks f n rest) (n - 1) [] =
    rw (ap (λ (i : ℕ). get_or (first_blocks f k y ++ first_blocks f n rest) (i + (n - 1)) [])
    (sym len))
    (get_or-append-add (first_blocks f k y) (first_blocks f n rest) (n - 1) []) in
    rw (
      place,
      cut-add f k n y,
      chain-append f h c k (first_blocks f k y) (first_blocks f n rest) (n - 1) len,
      at,
      size,
    ) refl

-- The run over y, after its first k blocks are compressed.
pub last_chain-after_prefix : (f : Family) (flags : Flags) (h : List ℕ) (c k : ℕ) (y : List ℕ)
    → k * block_bytes f ≤ length y → (k ≡ 0) ⊎ (0 < length (drop (k * block_bytes f) y))
    → last_chain f h c y flags
    ≡ last_chain f (chain f h c (first_blocks f k y) k) (c + k * block_bytes f)
    (drop (k * block_bytes f) y) flags
last_chain-after_prefix f flags h c k y whole more =
    let rest : List ℕ = drop (k * block_bytes f) y in
    let n : ℕ = block_count f (length rest) in
    let size : length y ≡ k * block_bytes f + length rest =
    omega (arith, length-drop (k * block_bytes f) y) in
    let blocks : block_count f (length y) ≡ k + n =
    ap (block_count f) size ∙ block_count-add f k (length rest) more in
    last_chain-by_block_count f flags h c y ∙ ap (last_chain_with_count f flags h c y) blocks
    ∙ last_chain_with_count-after_prefix f flags h c k y n whole
    (block_count-positive f (length rest))
    ∙ sym (last_chain-by_block_count f flags _ _ rest)
