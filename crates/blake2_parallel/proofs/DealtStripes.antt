-- How a message is dealt out to the leaves, stripe by stripe.
use Rattle.std.proofs.Common.{◌≡◌, ℕ, zero, suc, ◌+◌, ◌-◌, ◌*◌, ◌<◌, ◌≤◌, List, [], ◌++◌}
use Rattle.std.proofs.Common.{length, take, drop, refl, sym, ap, ◌∙◌, arith, length-append}
use Rattle.std.proofs.Common.{length-drop, drop-drop, append-nil, append_assoc, inl, inr, replicate}
use Rattle.std.proofs.lemmas.List.{drop_all, length-take, length-take-le, take_at, drop_at}
use Rattle.std.proofs.lemmas.List.{take-append-le, drop-append-le, take-append-drop}
use Rattle.std.proofs.lemmas.Bool.{cases_lt}
use Rattle.std.proofs.Math.Seq.{take-nil}
use Rattle.std.specs.List.{flat_map, range_with_len}
use Rattle.blake2_simd.specs.Family.{Family, blake2b, blake2s, block_bytes}
use Rattle.blake2_compress.specs.MessagePieces.{piece}
use Rattle.blake2_compress.proofs.MessagePieces.{piece-zero, piece-next}
use Rattle.blake2_parallel.specs.Parallel.{leaves, stripe_bytes, stripe_count, leaf_message}

-- A list over a range that begins one later.
flat_map-range_shifted_by_one : {A : Type 0} (f g : ℕ → List A) → ((i : ℕ) → f (i + 1) ≡ g i)
    → (a n : ℕ)
    → flat_map f (range_with_len (a + 1) n) ≡ flat_map g (range_with_len a n)
flat_map-range_shifted_by_one f g e a zero = refl
flat_map-range_shifted_by_one f g e a (suc n) =
    rw (e a, flat_map-range_shifted_by_one f g e (a + 1) n) refl

-- Lists over a range are the same if each is.
pub flat_map-range_same_if_each_same : {A : Type 0} (f g : ℕ → List A) (a n m : ℕ) → a + n ≤ m
    → ((i : ℕ) → i < m → f i ≡ g i)
    → flat_map f (range_with_len a n) ≡ flat_map g (range_with_len a n)
flat_map-range_same_if_each_same f g a zero m fits e = refl
flat_map-range_same_if_each_same f g a (suc n) m fits e =
    rw (e a (omega arith), flat_map-range_same_if_each_same f g (a + 1) n m (omega arith) e) refl

-- ---- stripes

-- A stripe is one more.
stripe_count-one_stripe_more : (f : Family) (n : ℕ) → stripe_bytes f ≤ n
    → stripe_count f n ≡ suc (stripe_count f (n - stripe_bytes f))
stripe_count-one_stripe_more blake2b n whole = omega arith
stripe_count-one_stripe_more blake2s n whole = omega arith

-- Some bytes are some stripes.
stripe_count-is_positive : (f : Family) (n : ℕ) → 0 < n
    → stripe_count f n ≡ suc (stripe_count f n - 1)
stripe_count-is_positive blake2b n some = omega arith
stripe_count-is_positive blake2s n some = omega arith

-- At most a stripe is one, or none.
stripe_count-of_no_bytes : (f : Family) → stripe_count f 0 ≡ 0
stripe_count-of_no_bytes blake2b = refl
stripe_count-of_no_bytes blake2s = refl

stripe_count-at_most_one_stripe : (f : Family) (n : ℕ) → 0 < n → n ≤ stripe_bytes f
    → stripe_count f n ≡ 1
stripe_count-at_most_one_stripe blake2b n some fits = omega arith
stripe_count-at_most_one_stripe blake2s n some fits = omega arith

-- Where a block begins, a stripe later.
block_offset-one_stripe_later : (f : Family) (i j : ℕ)
    → ((i + 1) * leaves f + j) * block_bytes f ≡ stripe_bytes f + (i * leaves f + j) * block_bytes f
block_offset-one_stripe_later blake2b i j = omega arith
block_offset-one_stripe_later blake2s i j = omega arith

-- ---- what a leaf gets

-- A block after the first stripe is one of the rest.
piece-after_first_stripe : (f : Family) (z : List ℕ) (i j : ℕ)
    → piece (block_bytes f) z ((i + 1) * leaves f + j)
    ≡ piece (block_bytes f) (drop (stripe_bytes f) z) (i * leaves f + j)
piece-after_first_stripe f z i j =
    rw (
      block_offset-one_stripe_later f i j,
      ← drop-drop ((i * leaves f + j) * block_bytes f) (stripe_bytes f) z,
    ) refl

-- Behind the end there is no block.
pub piece-past_end_is_empty : (b : ℕ) (z : List ℕ) (i : ℕ) → length z ≤ i * b → piece b z i ≡ []
piece-past_end_is_empty b z i past = ap (take b) (drop_all (i * b) z past) ∙ take-nil b

-- The blocks of a leaf.
abbrev blocks_of_leaf : Family → List ℕ → ℕ → ℕ → List ℕ
blocks_of_leaf f z j n = flat_map (λ i. piece (block_bytes f) z (i * leaves f + j))
    (range_with_len 0 n)

leaf_message-is_blocks_of_leaf : (f : Family) (z : List ℕ) (j : ℕ)
    → leaf_message f z j ≡ blocks_of_leaf f z j (stripe_count f (length z))
unfolding leaf_message
leaf_message-is_blocks_of_leaf f z j = refl

-- The first block of a leaf, and the others.
blocks_of_leaf-first_and_rest : (f : Family) (z : List ℕ) (j n : ℕ)
    → blocks_of_leaf f z j (suc n)
    ≡ piece (block_bytes f) z j ++ blocks_of_leaf f (drop (stripe_bytes f) z) j n
blocks_of_leaf-first_and_rest f z j n =
    let first : 0 * leaves f + j ≡ j = omega arith in
    ap (λ (k : ℕ). piece (block_bytes f) z k
    ++ flat_map (λ i. piece (block_bytes f) z (i * leaves f + j)) (range_with_len 1 n)) first
    ∙ ap (λ (rest : List ℕ). piece (block_bytes f) z j ++ rest)
    (flat_map-range_shifted_by_one _ _ (λ i. piece-after_first_stripe f z i j) 0 n)

-- A whole stripe: a block, and what the leaf gets of the rest.
pub leaf_message-first_block_and_rest : (f : Family) (z : List ℕ) (j : ℕ)
    → stripe_bytes f ≤ length z
    → leaf_message f z j ≡ piece (block_bytes f) z j ++ leaf_message f (drop (stripe_bytes f) z) j
leaf_message-first_block_and_rest f z j whole =
    let rest : List ℕ = drop (stripe_bytes f) z in
    leaf_message-is_blocks_of_leaf f z j
    ∙ ap (blocks_of_leaf f z j) (stripe_count-one_stripe_more f (length z) whole
    ∙ ap (λ (n : ℕ). suc (stripe_count f n)) (sym (length-drop (stripe_bytes f) z)))
    ∙ blocks_of_leaf-first_and_rest f z j (stripe_count f (length rest))
    ∙ ap (λ (d : List ℕ). piece (block_bytes f) z j ++ d)
    (sym (leaf_message-is_blocks_of_leaf f rest j))

-- At most a stripe: a block, or no bytes.
pub leaf_message-at_most_one_stripe : (f : Family) (z : List ℕ) (j : ℕ) → length z ≤ stripe_bytes f
    → leaf_message f z j ≡ piece (block_bytes f) z j
leaf_message-at_most_one_stripe f z j fits =
    elim (cases_lt 0 (length z)) [
      | inl some ↦
          leaf_message-is_blocks_of_leaf f z j
          ∙ ap (blocks_of_leaf f z j) (stripe_count-at_most_one_stripe f (length z) some fits)
          ∙ blocks_of_leaf-first_and_rest f z j 0 ∙ append-nil (piece (block_bytes f) z j)
      | inr none ↦
          let empty : length z ≡ 0 = omega arith in
          leaf_message-is_blocks_of_leaf f z j
          ∙ ap (blocks_of_leaf f z j) (ap (stripe_count f) empty ∙ stripe_count-of_no_bytes f)
          ∙ sym (piece-past_end_is_empty (block_bytes f) z j (omega arith))
    ]

-- A block of the second stripe.
pub piece-of_second_stripe : (f : Family) (z : List ℕ) (j : ℕ)
    → piece (block_bytes f) (drop (stripe_bytes f) z) j ≡ piece (block_bytes f) z (leaves f + j)
piece-of_second_stripe f z j =
    let first : 0 * leaves f + j ≡ j = omega arith in
    let second : (0 + 1) * leaves f + j ≡ leaves f + j = omega arith in
    ap (piece (block_bytes f) (drop (stripe_bytes f) z)) (sym first)
    ∙ sym (piece-after_first_stripe f z 0 j) ∙ ap (piece (block_bytes f) z) second

short_stripe-ends_before_second : (f : Family) (n j : ℕ) → n ≤ stripe_bytes f
    → n ≤ (leaves f + j) * block_bytes f
short_stripe-ends_before_second blake2b n j fits = omega arith
short_stripe-ends_before_second blake2s n j fits = omega arith

-- At most two stripes: two blocks.
pub leaf_message-at_most_two_stripes : (f : Family) (z : List ℕ) (j : ℕ)
    → length z ≤ 2 * stripe_bytes f
    → leaf_message f z j ≡ piece (block_bytes f) z j ++ piece (block_bytes f) z (leaves f + j)
leaf_message-at_most_two_stripes f z j fits =
    elim (cases_lt (stripe_bytes f) (length z)) [
      | inl more ↦
          leaf_message-first_block_and_rest f z j (omega arith)
          ∙ ap (λ (d : List ℕ). piece (block_bytes f) z j ++ d)
          (leaf_message-at_most_one_stripe f (drop (stripe_bytes f) z) j
          (omega (arith, length-drop (stripe_bytes f) z))
          ∙ piece-of_second_stripe f z j)
      | inr one ↦
          leaf_message-at_most_one_stripe f z j one
          ∙ sym (ap (λ (d : List ℕ). piece (block_bytes f) z j ++ d)
          (piece-past_end_is_empty (block_bytes f) z (leaves f + j)
          (short_stripe-ends_before_second f (length z) j one))
          ∙ append-nil (piece (block_bytes f) z j))
    ]

-- A leaf whose first block has a byte gets some bytes.
pub leaf_message-is_nonempty : (f : Family) (z : List ℕ) (j : ℕ) → j * block_bytes f < length z
    → 0 < length (leaf_message f z j)
leaf_message-is_nonempty f z j some =
    let n : ℕ = stripe_count f (length z) - 1 in
    let is : leaf_message f z j
    ≡ piece (block_bytes f) z j ++ blocks_of_leaf f (drop (stripe_bytes f) z) j n =
    leaf_message-is_blocks_of_leaf f z j ∙ ap (blocks_of_leaf f z j)
    (stripe_count-is_positive f (length z) (omega arith))
    ∙ blocks_of_leaf-first_and_rest f z j n in
    omega (
      arith,
      ap length is,
      length-append (piece (block_bytes f) z j) (blocks_of_leaf f (drop (stripe_bytes f) z) j n),
      length-take (block_bytes f) (drop (j * block_bytes f) z),
      length-drop (j * block_bytes f) z,
      block_some f,
    )
  where
    block_some : (f : Family) → 0 < block_bytes f
    block_some blake2b = omega arith
    block_some blake2s = omega arith

-- ---- the beginning of a message

-- A block that lies in the beginning.
pub piece-unchanged_by_append : (b : ℕ) (x y : List ℕ) (i : ℕ) → b ≤ length x - i * b
    → i * b ≤ length x
    → piece b (x ++ y) i ≡ piece b x i
piece-unchanged_by_append b x y i whole within =
    ap (take b) (drop-append-le (i * b) x y within)
    ∙ take-append-le b (drop (i * b) x) y (omega (arith, length-drop (i * b) x))

-- Whatever follows the first n bytes, the blocks in them are the same.
pub piece-unchanged_after_prefix : (b n : ℕ) (x y : List ℕ) (i : ℕ) → n ≤ length x → b ≤ n - i * b
    → i * b ≤ n
    → piece b (take n x ++ y) i ≡ piece b x i
piece-unchanged_after_prefix b n x y i fits whole within =
    let long : length (take n x) ≡ n = length-take-le n x fits in
    let whole2 : b ≤ length (take n x) - i * b = rw long whole in
    let within2 : i * b ≤ length (take n x) = rw long within in
    piece-unchanged_by_append b (take n x) y i whole2 within2
    ∙ sym (piece-unchanged_by_append b (take n x) (drop n x) i whole2 within2)
    ∙ ap (λ (z : List ℕ). piece b z i) (take-append-drop n x)

-- ---- key blocks

-- The same block several times.
abbrev pub repeated_block : ℕ → List ℕ → List ℕ
repeated_block n block = flat_map (λ x. x) (replicate n block)

pub length-repeated_block : (n b : ℕ) (block : List ℕ) → length block ≡ b
    → length (repeated_block n block) ≡ n * b
length-repeated_block zero b block long = omega arith
length-repeated_block (suc n) b block long =
    omega (
      arith,
      length-append block (repeated_block n block),
      length-repeated_block n b block long,
      long,
    )

pub piece-of_repeated_block : (b n : ℕ) (block y : List ℕ) (j : ℕ) → length block ≡ b → j < n
    → piece b (repeated_block n block ++ y) j ≡ block
piece-of_repeated_block b zero block y j long lane = absurd (omega arith)
piece-of_repeated_block b (suc n) block y zero long lane =
    piece-zero b (repeated_block (suc n) block ++ y)
    ∙ ap (take b) (append_assoc block (repeated_block n block) y)
    ∙ take_at block (repeated_block n block ++ y) b long
piece-of_repeated_block b (suc n) block y (suc j) long lane =
    let next : suc j ≡ j + 1 = omega arith in
    ap (piece b (repeated_block (suc n) block ++ y)) next
    ∙ piece-next b (repeated_block (suc n) block ++ y) j
    ∙ ap (λ (z : List ℕ). piece b z j)
    (ap (drop b) (append_assoc block (repeated_block n block) y)
    ∙ drop_at block (repeated_block n block ++ y) b long)
    ∙ piece-of_repeated_block b n block y j long (omega arith)

-- A block for each leaf comes first in what each leaf gets.
pub leaf_message-after_repeated_block : (f : Family) (block y : List ℕ) (j : ℕ)
    → length block ≡ block_bytes f
    → j < leaves f → leaf_message f (repeated_block (leaves f) block ++ y) j
    ≡ block ++ leaf_message f y j
leaf_message-after_repeated_block f block y j long lane =
    let x : List ℕ = repeated_block (leaves f) block in
    let size : length x ≡ stripe_bytes f = length-repeated_block (leaves f) (block_bytes f) block
    long in
    leaf_message-first_block_and_rest f (x ++ y) j (omega (arith, length-append x y, size))
    ∙ (λ i. piece-of_repeated_block (block_bytes f) (leaves f) block y j long lane i
    ++ leaf_message f (drop_at x y (stripe_bytes f) size i) j)
