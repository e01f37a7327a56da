-- One block more of a run over data, and stripes more of a leaf.
use Rattle.std.proofs.Common.{◌≡◌, ℕ, zero, suc, ◌+◌, ◌-◌, ◌*◌, ◌<◌, ◌≤◌, List, [], ◌++◌, length}
use Rattle.std.proofs.Common.{take, drop, refl, sym, ap, ◌∙◌, arith, length-drop, length-append}
use Rattle.std.proofs.Common.{inl, inr, get_or, drop-drop}
use Rattle.std.specs.Simd.{first_chunks}
use Rattle.std.proofs.lemmas.Bool.{cases_lt}
use Rattle.std.proofs.lemmas.Grind.{same_number_lists}
use Rattle.std.proofs.lemmas.List.{take_all, take_at, drop_at, length-take-le, get_or_default}
use Rattle.std.proofs.lemmas.List.{get_or-drop, get_or-take, get_or_past, length-take}
use Rattle.blake2_simd.specs.Family.{Family, blake2b, blake2s, block_bytes}
use Rattle.blake2_compress.specs.Hash.{Flags, block_count, bytes_of, chain, compress, first_blocks}
use Rattle.blake2_compress.specs.Hash.{inner}
use Rattle.blake2_compress.specs.Hash.{last_chain, padded}
use Rattle.blake2_compress.specs.MessagePieces.{piece}
use Rattle.blake2_compress.proofs.ByteSizes.{length-padded}
use Rattle.blake2_compress.proofs.Padding.{padded-keeps_elements, padded-zero_past_end}
use Rattle.blake2_compress.proofs.Padding.{padded-unchanged_at_length}
use Rattle.blake2_compress.proofs.SplitRuns.{last_chain-after_prefix}
use Rattle.blake2_parallel.specs.LeafStates.{leaf_chain}
use Rattle.blake2_parallel.specs.Parallel.{leaf_message, leaves, stripe_bytes}
use Rattle.blake2_parallel.proofs.DealtStripes.{leaf_message-is_nonempty}
use Rattle.blake2_parallel.proofs.DealtStripes.{leaf_message-first_block_and_rest}
use Rattle.blake2_parallel.proofs.DealtStripes.{piece-unchanged_after_prefix}

-- The first block of more data.
chain-of_one_block : (f : Family) (h : List ℕ) (c : ℕ) (y : List ℕ) → block_bytes f ≤ length y
    → chain f h c (first_blocks f 1 y) 1
    ≡ compress f h (take (block_bytes f) y) (c + block_bytes f) inner
unfolding chain first_blocks
chain-of_one_block f h c y whole =
    let count : c + (0 + 1) * block_bytes f ≡ c + block_bytes f = omega arith in
    (λ i. compress f h (padded-unchanged_at_length (block_bytes f) (take (block_bytes f) y)
    (length-take-le (block_bytes f) y whole) i) (count i) inner)

-- The run over more than a block, after that block.
pub last_chain-after_first_block : (f : Family) (flags : Flags) (h : List ℕ) (c : ℕ) (y : List ℕ)
    → block_bytes f < length y
    → last_chain f h c y flags
    ≡ last_chain f (compress f h (take (block_bytes f) y) (c + block_bytes f) inner)
    (c + block_bytes f) (drop (block_bytes f) y) flags
last_chain-after_first_block f flags h c y more =
    let one : 1 * block_bytes f ≡ block_bytes f = omega arith in
    let left : 0 < length (drop (1 * block_bytes f) y) =
    omega (arith, length-drop (1 * block_bytes f) y) in
    last_chain-after_prefix f flags h c 1 y (omega arith) (inr left)
    ∙ (λ i. last_chain f (chain-of_one_block f h c y (omega arith) i) (c + one i) (drop (one i) y) flags)

block_count-at_most_one_block : (f : Family) (n : ℕ) → n ≤ block_bytes f → block_count f n ≡ 1
block_count-at_most_one_block blake2b n fits = omega arith
block_count-at_most_one_block blake2s n fits = omega arith

-- The run over at most a block.
pub last_chain-single_block : (f : Family) (flags : Flags) (h : List ℕ) (c : ℕ) (y : List ℕ)
    → length y ≤ block_bytes f
    → last_chain f h c y flags ≡ compress f h (padded (block_bytes f) y) (c + length y) flags
unfolding last_chain first_blocks chain
last_chain-single_block f flags h c y fits =
    let one : block_count f (length y) ≡ 1 = block_count-at_most_one_block f (length y) fits in
    let whole : take (block_bytes f) y ≡ y = take_all (block_bytes f) y fits in
    rw (one, whole) refl

leaf_block-within_bytes_left : (f : Family) (n j : ℕ) → stripe_bytes f ≤ n → j < leaves f
    → block_bytes f ≤ n - j * block_bytes f
leaf_block-within_bytes_left blake2b n j whole lane = omega arith
leaf_block-within_bytes_left blake2s n j whole lane = omega arith

-- The least number of bytes with which each leaf has a byte after its first block: more than a
-- stripe and the blocks of all leaves but one.
abbrev pub least_bytes_after_one_stripe : Family → ℕ
least_bytes_after_one_stripe f = stripe_bytes f + (leaves f - 1) * block_bytes f

leaf-has_byte_after_stripe : (f : Family) (n j : ℕ) → least_bytes_after_one_stripe f < n
    → j < leaves f
    → j * block_bytes f < n - stripe_bytes f
leaf-has_byte_after_stripe blake2b n j more lane = omega arith
leaf-has_byte_after_stripe blake2s n j more lane = omega arith

-- The run of a leaf after its block of the first stripe, if each leaf has bytes after it.
pub last_chain-after_first_stripe : (f : Family) (flags : Flags) (h : List ℕ) (c : ℕ) (z : List ℕ)
    (j : ℕ)
    → j < leaves f → least_bytes_after_one_stripe f < length z
    → last_chain f h c (leaf_message f z j) flags
    ≡ last_chain f (compress f h (piece (block_bytes f) z j) (c + block_bytes f) inner)
    (c + block_bytes f) (leaf_message f (drop (stripe_bytes f) z) j) flags
last_chain-after_first_stripe f flags h c z j lane more =
    let b : ℕ = block_bytes f in
    let p : List ℕ = piece b z j in
    let d : List ℕ = leaf_message f (drop (stripe_bytes f) z) j in
    let whole : stripe_bytes f ≤ length z = omega arith in
    let long : length p ≡ b =
    length-take-le b (drop (j * b) z)
    (omega (
      arith,
      length-drop (j * b) z,
      leaf_block-within_bytes_left f (length z) j whole
          lane,
    )) in
    let some : 0 < length d =
    leaf_message-is_nonempty f (drop (stripe_bytes f) z) j
    (omega (
      arith,
      length-drop (stripe_bytes f) z,
      leaf-has_byte_after_stripe f (length z) j more lane,
    )) in
    ap (λ (y : List ℕ). last_chain f h c y flags) (leaf_message-first_block_and_rest f z j whole)
    ∙ last_chain-after_first_block f flags h c (p ++ d)
    (omega (arith, length-append p d, long, some))
    ∙ (λ i. last_chain f (compress f h (take_at p d b long i) (c + b) inner) (c + b)
    (drop_at p d b long i) flags)

-- ---- a leaf's blocks of several stripes

-- No stripe yet.
pub leaf_chain-of_no_stripes : (f : Family) (h : List ℕ) (c : ℕ) (z : List ℕ) (j : ℕ)
    → h ≡ leaf_chain f h c z j 0
unfolding leaf_chain
leaf_chain-of_no_stripes f h c z j = refl

-- One stripe more.
pub leaf_chain-one_stripe_more : (f : Family) (h : List ℕ) (c : ℕ) (z : List ℕ) (j i u : ℕ)
    (old new block : List ℕ) → old ≡ leaf_chain f h c z j i → new ≡ compress f old block u inner
    → block ≡ piece (block_bytes f) z (i * leaves f + j) → u ≡ c + (i + 1) * block_bytes f
    → new ≡ leaf_chain f h c z j (i + 1)
unfolding leaf_chain
leaf_chain-one_stripe_more f h c z j i u old new block before compressed is counted =
    let next : suc i ≡ i + 1 = omega arith in
    compressed ∙ (λ k. compress f (before k) (is k) (counted k) inner)
    ∙ ap (leaf_chain f h c z j) next

-- Where a block of stripe i begins.
block_offset-in_stripe : (f : Family) (i j : ℕ)
    → (i * leaves f + j) * block_bytes f ≡ i * stripe_bytes f + j * block_bytes f
block_offset-in_stripe blake2b i j = omega arith
block_offset-in_stripe blake2s i j = omega arith

-- A block of stripe i is one of what follows the stripes before.
pub piece-of_stripe : (f : Family) (z : List ℕ) (i j : ℕ)
    → piece (block_bytes f) z (i * leaves f + j)
    ≡ piece (block_bytes f) (drop (i * stripe_bytes f) z) j
piece-of_stripe f z i j =
    rw (block_offset-in_stripe f i j, ← drop-drop (j * block_bytes f) (i * stripe_bytes f) z) refl

-- A single stripe.
leaf_chain-single_stripe : (f : Family) (h : List ℕ) (c : ℕ) (z : List ℕ) (j : ℕ)
    → leaf_chain f h c z j 1
    ≡ compress f h (piece (block_bytes f) z j) (c + block_bytes f) inner
unfolding leaf_chain
leaf_chain-single_stripe f h c z j =
    let at : 0 * leaves f + j ≡ j = omega arith in
    let count : c + (0 + 1) * block_bytes f ≡ c + block_bytes f = omega arith in
    (λ i. compress f h (piece (block_bytes f) z (at i)) (count i) inner)

-- A single stripe, which lies in the first n bytes of x, whatever follows them.
pub leaf_chain-unchanged_after_prefix : (f : Family) (h : List ℕ) (c n : ℕ) (x y : List ℕ) (j : ℕ)
    → j < leaves f
    → stripe_bytes f ≤ n → n ≤ length x
    → leaf_chain f h c x j 1 ≡ leaf_chain f h c (take n x ++ y) j 1
leaf_chain-unchanged_after_prefix f h c n x y j lane whole fits =
    leaf_chain-single_stripe f h c x j
    ∙ ap (λ (block : List ℕ). compress f h block (c + block_bytes f) inner)
    (sym (piece-unchanged_after_prefix (block_bytes f) n x y j fits
    (leaf_block-within_bytes_left f n j whole lane)
    (begins f n j whole lane)))
    ∙ sym (leaf_chain-single_stripe f h c (take n x ++ y) j)
  where
    begins : (f : Family) (n j : ℕ) → stripe_bytes f ≤ n → j < leaves f → j * block_bytes f ≤ n
    begins blake2b n j whole lane = omega arith
    begins blake2s n j whole lane = omega arith

-- ---- a loop over the blocks of data

-- One more block.
pub last_chain-after_compressed_block : (f : Family) (flags : Flags) (h new : List ℕ) (c d : ℕ)
    (y block rest : List ℕ)
    → block_bytes f < length y → block ≡ take (block_bytes f) y
    → new ≡ compress f h block d inner → d ≡ c + block_bytes f → rest ≡ drop (block_bytes f) y
    → last_chain f new d rest flags ≡ last_chain f h c y flags
last_chain-after_compressed_block f flags h new c d y block rest more is compressed counted left =
    (λ i. last_chain f (compressed i) d (left i) flags)
    ∙ (λ i. last_chain f (compress f h (is i) (counted i) inner) (counted i)
    (drop (block_bytes f) y) flags)
    ∙ sym (last_chain-after_first_block f flags h c y more)

-- The last block.
pub output-is_last_chain_of_last_block : (f : Family) (flags given : Flags) (h new : List ℕ)
    (c d : ℕ)
    (y block out w : List ℕ) → length y ≤ block_bytes f → block ≡ padded (block_bytes f) y
    → new ≡ compress f h block d given → given ≡ flags → d ≡ c + length y → out ≡ bytes_of f new
    → last_chain f h c y flags ≡ w → out ≡ bytes_of f w
output-is_last_chain_of_last_block f flags given h new c d y block out w fits is compressed same
    counted read over =
    read ∙ ap (bytes_of f) (compressed
    ∙ (λ i. compress f h (is i) (counted i) (same i))
    ∙ sym (last_chain-single_block f flags h c y fits) ∙ over)

-- ---- chunks

-- Chunk i of the first k.
get_or-first_chunks_is_piece : (b k i : ℕ) (y : List ℕ) → i < k
    → get_or (first_chunks b k y) i [] ≡ piece b y i
get_or-first_chunks_is_piece b zero i y h = absurd (omega arith)
get_or-first_chunks_is_piece b (suc k) zero y h =
    let none : 0 * b ≡ 0 = omega arith in
    rw none refl
get_or-first_chunks_is_piece b (suc k) (suc i) y h =
    let more : suc i * b ≡ b + i * b = omega arith in
    get_or-first_chunks_is_piece b k i (drop b y) (omega arith)
    ∙ ap (take b) (drop-drop (i * b) b y ∙ ap (λ (n : ℕ). drop n y) (sym more))

pub get_or-chunk_is_piece : (b k i : ℕ) (chunks : List (List ℕ)) (y d : List ℕ)
    → chunks ≡ first_chunks b k y → length chunks ≡ k → i < k → get_or chunks i d ≡ piece b y i
get_or-chunk_is_piece b k i chunks y d are long within =
    get_or_default chunks i d [] (omega (arith, long))
    ∙ ap (λ (l : List (List ℕ)). get_or l i []) are ∙ get_or-first_chunks_is_piece b k i y within

get_or-padded : (n : ℕ) (z : List ℕ) (i : ℕ) → get_or (padded n z) i 0 ≡ get_or z i 0
get_or-padded n z i = elim (cases_lt i (length z)) [
  | inl below ↦ padded-keeps_elements n z i below
  | inr past ↦ padded-zero_past_end n z i past ∙ sym (get_or_past z i 0 past)
]

-- A block of padded bytes is the block of the bytes, padded.
pub piece-of_padded_is_padded_piece : (b n i : ℕ) (x : List ℕ) → i * b + b ≤ n → length x ≤ n
    → piece b (padded n x) i ≡ padded b (piece b x i)
piece-of_padded_is_padded_piece b n i x within fits =
    let k : ℕ = i * b in
    let left : length (piece b (padded n x) i) ≡ b =
    length-take-le b (drop k (padded n x))
    (omega (arith, length-drop k (padded n x), length-padded n x fits)) in
    let right : length (padded b (piece b x i)) ≡ b =
    length-padded b (piece b x i) (omega (arith, length-take b (drop k x))) in
    same_number_lists (piece b (padded n x) i) (padded b (piece b x i)) (left ∙ sym right)
    (λ m lt. get_or-take b (drop k (padded n x)) m 0 (omega (arith, left))
    ∙ get_or-drop k (padded n x) m 0 ∙ get_or-padded n x (k + m)
    ∙ sym (get_or-padded b (piece b x i) m ∙ get_or-take b (drop k x) m 0 (omega (arith, left))
    ∙ get_or-drop k x m 0))
