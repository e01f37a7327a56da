-- What a start leaves in the leaves.
use Rattle.std.proofs.Common.{◌≡◌, ℕ, ◌+◌, ◌-◌, ◌*◌, ◌<◌, ◌≤◌, List, [], ◌++◌, ◌∷◌, length, take}
use Rattle.std.proofs.Common.{refl, sym, ap, ◌∙◌, arith}
use Rattle.std.proofs.lemmas.List.{take_all}
use Rattle.blake2_simd.specs.Family.{Family, blake2b, blake2s, block_bytes, key_bytes}
use Rattle.blake2_compress.specs.Hash.{padded, start}
use Rattle.blake2_compress.proofs.ByteSizes.{length-padded}
use Rattle.blake2_parallel.specs.Parallel.{Settings, leaf_message, parallel_key_count}
use Rattle.blake2_parallel.specs.Parallel.{leaf_key_block}
use Rattle.blake2_parallel.specs.Parallel.{leaves, parallel_node_parameters, stripe_bytes}
use Rattle.blake2_parallel.specs.LeafStates.{Leaves}
use Rattle.blake2_parallel.proofs.DealtStripes.{leaf_message-after_repeated_block}
use Rattle.blake2_parallel.proofs.DealtStripes.{length-repeated_block, repeated_block}

-- What the leaves start from: the words of their parameters, no bytes counted, and a key's block
-- for each of them pending, or nothing.
pub record AtStart (f : Family) (a : Settings) (s : Leaves) : Type 0 where
  pub words : (j : ℕ) → j < leaves f → s.words j ≡ start f (parallel_node_parameters f a j 0)
  pub count : s.count ≡ 0
  pub pending : (y : List ℕ) (j : ℕ) → j < leaves f
      → leaf_message f (s.pending ++ y) j ≡ leaf_key_block f a.key ++ leaf_message f y j
  pub long : length s.pending ≡ parallel_key_count f a.key

key_length-at_most_block_bytes : (f : Family) (key : List ℕ) → length key ≤ key_bytes f
    → length key ≤ block_bytes f
key_length-at_most_block_bytes blake2b key fits = omega arith
key_length-at_most_block_bytes blake2s key fits = omega arith

-- With a key: its block for each leaf. Without: nothing.
pub leaf_message-starts_with_key_block : (f : Family) (key : List ℕ) (n : ℕ)
    → length key ≤ key_bytes f
    → (length key ≡ 0 → n ≡ 0) → (0 < length key → n ≡ stripe_bytes f) → (y : List ℕ) (j : ℕ)
    → j < leaves f
    → leaf_message f (take n (repeated_block (leaves f) (padded (block_bytes f) key)) ++ y) j
    ≡ leaf_key_block f key ++ leaf_message f y j
leaf_message-starts_with_key_block f [] n fits none some y j lane =
    ap (λ (k : ℕ). leaf_message f (take k (repeated_block (leaves f) (padded (block_bytes f) []))
    ++ y) j)
    (none refl)
leaf_message-starts_with_key_block f (x ∷ xs) n fits none some y j lane =
    let key : List ℕ = x ∷ xs in
    let block : List ℕ = padded (block_bytes f) key in
    let long : length block ≡ block_bytes f =
    length-padded (block_bytes f) key (key_length-at_most_block_bytes f key fits) in
    let size : length (repeated_block (leaves f) block) ≡ stripe_bytes f =
    length-repeated_block (leaves f) (block_bytes f) block long in
    let all : take n (repeated_block (leaves f) block) ≡ repeated_block (leaves f) block =
    take_all n (repeated_block (leaves f) block) (omega (arith, size, some (omega arith))) in
    ap (λ (z : List ℕ). leaf_message f (z ++ y) j) all
    ∙ leaf_message-after_repeated_block f block y j long lane

-- The number of bytes that a start leaves pending.
pub length-pending_key_blocks : (f : Family) (key : List ℕ) (n : ℕ) → length key ≤ key_bytes f
    → (length key ≡ 0 → n ≡ 0) → (0 < length key → n ≡ stripe_bytes f)
    → length (take n (repeated_block (leaves f) (padded (block_bytes f) key)))
    ≡ parallel_key_count f key
length-pending_key_blocks f [] n fits none some =
    ap (λ (k : ℕ). length (take k (repeated_block (leaves f) (padded (block_bytes f) []))))
    (none refl)
    ∙ zero-of f
  where
    zero-of : (f : Family) → 0 ≡ leaves f * 0
    zero-of f = omega arith
length-pending_key_blocks f (x ∷ xs) n fits none some =
    let block : List ℕ = padded (block_bytes f) (x ∷ xs) in
    let long : length block ≡ block_bytes f =
    length-padded (block_bytes f) (x ∷ xs) (key_length-at_most_block_bytes f (x ∷ xs) fits) in
    let size : length (repeated_block (leaves f) block) ≡ stripe_bytes f =
    length-repeated_block (leaves f) (block_bytes f) block long in
    let all : n ≡ stripe_bytes f = some (omega arith) in
    ap length (take_all n (repeated_block (leaves f) block) (omega (arith, size, all)))
    ∙ size ∙ ap (λ (k : ℕ). leaves f * k) (sym long)

-- What a start leaves is the beginning of a hash.
pub new_leaves-are_at_start : (f : Family) (a : Settings) (n : ℕ) (block : List ℕ)
    (words : ℕ → List ℕ)
    → length a.key ≤ key_bytes f → block ≡ padded (block_bytes f) a.key
    → (length a.key ≡ 0 → n ≡ 0) → (0 < length a.key → n ≡ stripe_bytes f)
    → ((j : ℕ) → j < leaves f → words j ≡ start f (parallel_node_parameters f a j 0))
    → AtStart f a (record {
      words = words;
      count = 0;
      pending = take n (repeated_block (leaves f) block);
    })
new_leaves-are_at_start f a n block words fits is none some begun = record {
  words = begun;
  count = refl;
  pending = λ y j lane. ap (λ (b : List ℕ). leaf_message f
      (take n (repeated_block (leaves f) b) ++ y) j) is
      ∙ leaf_message-starts_with_key_block f a.key n fits none some y j lane;
  long = ap (λ (b : List ℕ). length (take n (repeated_block (leaves f) b))) is
      ∙ length-pending_key_blocks f a.key n fits none some;
}

-- Leaves with the same words, count and pending bytes are at the same start.
pub AtStart-of_equal_leaves : (f : Family) (a : Settings) (old new : Leaves)
    → ((j : ℕ) → new.words j ≡ old.words j) → new.count ≡ old.count → new.pending ≡ old.pending
    → AtStart f a old → AtStart f a new
AtStart-of_equal_leaves f a old new words count pending begun = record {
  words = λ j lane. words j ∙ begun.words j lane;
  count = count ∙ begun.count;
  pending = λ y j lane. ap (λ (p : List ℕ). leaf_message f (p ++ y) j) pending ∙ begun.pending y j lane;
  long = ap length pending ∙ begun.long;
}

-- The number of bytes that a key counts for: a stripe.
pub parallel_key_count-with_key : (f : Family) (key : List ℕ) → 0 < length key
    → length key ≤ key_bytes f
    → parallel_key_count f key ≡ stripe_bytes f
parallel_key_count-with_key f [] some fits = absurd (omega arith)
parallel_key_count-with_key f (x ∷ xs) some fits =
    ap (λ (n : ℕ). leaves f * n)
    (length-padded (block_bytes f) (x ∷ xs) (key_length-at_most_block_bytes f (x ∷ xs) fits))
