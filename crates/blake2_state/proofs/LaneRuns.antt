-- A state after blocks that were compressed elsewhere: what is not compressed yet, the pending bytes
-- and an input, is y, and n + 1 blocks of it were, with at least a byte and at most a block after.
use Rattle.std.proofs.Common.{◌≡◌, ℕ, suc, ◌+◌, ◌-◌, ◌*◌, ◌<◌, ◌≤◌, List, ◌∷◌, ◌++◌, length, take}
use Rattle.std.proofs.Common.{drop}
use Rattle.std.proofs.Common.{sym, ap, ◌∙◌, arith}
use Rattle.std.proofs.Math.Seq.{drop-append-add}
use Rattle.std.specs.Simd.{first_chunks}
use Rattle.blake2_simd.specs.Family.{Family, block_bytes}
use Rattle.blake2_compress.specs.Hash.{chain}
use Rattle.blake2_digest.specs.Blocks.{compressed_blocks, pending_bytes}
use Rattle.blake2_digest.proofs.Cutting.{chunk_count-by_last_offset, append-split_input}
use Rattle.blake2_digest.proofs.Cutting.{first_chunks-append}
use Rattle.blake2_digest.proofs.Cutting.{length-first_chunks}
use Rattle.blake2.specs.Cores.{CoreState, absorbed}
use Rattle.blake2.proofs.StateLaws.{block_bytes-positive}

-- What is left of an input after it has filled a block with the pending bytes.
pub drop_rest-of_held_and_input : (size p : ℕ) (held x : List ℕ) → length held ≡ p → p ≤ size
    → drop (size - p) x ≡ drop size (held ++ x)
drop_rest-of_held_and_input size p held x long most =
    let all : length held + (size - p) ≡ size = omega (arith, long) in
    sym (drop-append-add held x (size - p)) ∙ ap (λ (k : ℕ). drop k (held ++ x)) all

-- The first block and n after it are n + 1.
pub first_chunks-cons : (size n : ℕ) (y : List ℕ)
    → take size y ∷ first_chunks size n (drop size y) ≡ first_chunks size (n + 1) y
first_chunks-cons size n y =
    let next : suc n ≡ n + 1 = omega arith in
    ap (λ (k : ℕ). first_chunks size k y) next

-- What comes after e bytes of the input is not among blocks before it.
pub first_chunks-unchanged_by_later_input : (size k e : ℕ) (held x : List ℕ)
    → k * size ≤ length (held ++ take e x)
    → first_chunks size k (held ++ take e x) ≡ first_chunks size k (held ++ x)
first_chunks-unchanged_by_later_input size k e held x room =
    sym (first_chunks-append size k (held ++ take e x) (drop e x) room)
    ∙ ap (first_chunks size k) (append-split_input e held x)

-- What is pending then.
pub rest_after_run-is_pending : (size n : ℕ) (y : List ℕ) → 0 < size → (n + 1) * size < length y
    → length y ≤ (n + 1) * size + size → drop ((n + 1) * size) y ≡ pending_bytes size y
unfolding pending_bytes
rest_after_run-is_pending size n y some least most =
    ap (λ (k : ℕ). drop (k * size) y)
    (sym (chunk_count-by_last_offset size (length y) (n + 1) some least most))

-- The blocks.
first_chunks-are_compressed_blocks : (size n : ℕ) (y : List ℕ) → 0 < size
    → (n + 1) * size < length y
    → length y ≤ (n + 1) * size + size → first_chunks size (n + 1) y ≡ compressed_blocks size y
unfolding compressed_blocks
first_chunks-are_compressed_blocks size n y some least most =
    ap (λ (k : ℕ). first_chunks size k y)
    (sym (chunk_count-by_last_offset size (length y) (n + 1) some least most))

-- The chaining words.
pub chain_of_run-is_absorbed_words : (f : Family) (core : CoreState) (n : ℕ) (y : List ℕ)
    → (n + 1) * block_bytes f < length y → length y ≤ (n + 1) * block_bytes f + block_bytes f
    → chain f core.h core.count (first_chunks (block_bytes f) (n + 1) y) (n + 1)
    ≡ (absorbed f core (compressed_blocks (block_bytes f) y)).h
unfolding absorbed
chain_of_run-is_absorbed_words f core n y least most =
    let size : ℕ = block_bytes f in
    let blocks : List (List ℕ) = first_chunks size (n + 1) y in
    ap (chain f core.h core.count blocks) (sym (length-first_chunks size (n + 1) y))
    ∙ ap (λ (d : List (List ℕ)). chain f core.h core.count d (length d))
    (first_chunks-are_compressed_blocks size n y (block_bytes-positive f) least most)

-- The number of bytes that are compressed.
pub count_of_run-is_absorbed_count : (f : Family) (core : CoreState) (n : ℕ) (y : List ℕ)
    → (n + 1) * block_bytes f < length y → length y ≤ (n + 1) * block_bytes f + block_bytes f
    → core.count + block_bytes f * (n + 1)
    ≡ (absorbed f core (compressed_blocks (block_bytes f) y)).count
unfolding absorbed
count_of_run-is_absorbed_count f core n y least most =
    let size : ℕ = block_bytes f in
    ap (λ (k : ℕ). core.count + size * k) (sym (length-first_chunks size (n + 1) y))
    ∙ ap (λ (d : List (List ℕ)). core.count + size * length d)
    (first_chunks-are_compressed_blocks size n y (block_bytes-positive f) least most)
