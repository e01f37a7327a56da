-- The blocks of an input's data from the second on, as chunks of what follows the first.
use Rattle.std.proofs.Common.{◌≡◌, ℕ, zero, suc, ◌+◌, ◌-◌, ◌*◌, ◌/◌, ◌<◌, ◌≤◌, List, [], length}
use Rattle.std.proofs.Common.{min, take, drop, refl, sym, ap, subst, ◌∙◌, arith, length-drop}
use Rattle.std.proofs.Common.{Option, Some, None, inl, inr}
use Rattle.std.proofs.lemmas.List.{drop_at, drop-drop, drop_all, length-take-le}
use Rattle.std.proofs.lemmas.Bool.{cases_lt}
use Rattle.std.specs.Prelude.{slice_index_or}
use Rattle.std.specs.Simd.{first_chunks}
use Rattle.blake2_simd.specs.Family.{Family, blake2b, blake2s, block_bytes}
use Rattle.blake2_compress.specs.Hash.{Input, input_data, padded, blocks, block_count, data_bytes}
use Rattle.blake2_compress.specs.Hash.{key_block}
use Rattle.blake2_compress.specs.Inputs.{KeyFits}
use Rattle.blake2_compress.specs.Run.{step_count}
use Rattle.blake2_compress.proofs.ParameterSizes.{key_and_output_bytes-fit_byte}
use Rattle.blake2_compress.proofs.ByteSizes.{length-padded}
use Rattle.blake2_compress.proofs.Padding.{padded-unchanged_at_length}
use Rattle.blake2_compress.proofs.InputBlocks.{cut-at}
use Rattle.blake2_compress.proofs.Runs.{inner_block-is_whole}

-- Chunk i of the first k.
pub first_chunks-at : (b k i : ℕ) (y : List ℕ) → i < k
    → slice_index_or (first_chunks b k y) i [] ≡ take b (drop (i * b) y)
first_chunks-at b zero i y h = absurd (omega arith)
first_chunks-at b (suc k) zero y h =
    let none : 0 * b ≡ 0 = omega arith in
    rw none refl
first_chunks-at b (suc k) (suc i) y h =
    let more : suc i * b ≡ b + i * b = omega arith in
    first_chunks-at b k i (drop b y) (omega arith)
    ∙ ap (take b) (drop-drop (i * b) b y ∙ ap (λ (n : ℕ). drop n y) (sym more))

-- Bytes that hold a chunk more than i hold chunk i.
pub chunk_index-below_count : (f : Family) (m i : ℕ) → (i + 1) * block_bytes f ≤ m
    → i < m / block_bytes f
chunk_index-below_count blake2b m i h = omega arith
chunk_index-below_count blake2s m i h = omega arith

-- All blocks except the first and the last are among the chunks.
chunks-cover_inner_blocks : (f : Family) (m : ℕ)
    → block_count f m ≤ (m - block_bytes f) / block_bytes f + 2
chunks-cover_inner_blocks blake2b m = omega arith
chunks-cover_inner_blocks blake2s m = omega arith

-- Without a key the rest is the message after its first block.
pub rest_after_first_block-unkeyed : (f : Family) (b : ℕ) → block_bytes f ≡ b
    → (key : Option (List ℕ)) (m : List ℕ)
    → key ≡ None → drop (min (length m) b) m ≡ drop b (data_bytes f key m)
unfolding key_block
rest_after_first_block-unkeyed f b e key m none =
    cut_short b m ∙ ap (λ (k : Option (List ℕ)). drop b (data_bytes f k m)) (sym none)
  where
    cut_short : (b : ℕ) (m : List ℕ) → drop (min (length m) b) m ≡ drop b m
    cut_short b m = elim (cases_lt (length m) b) [
      | inl short ↦
          let all : min (length m) b ≡ length m = omega arith in
          ap (λ n. drop n m) all ∙ drop_all (length m) m (omega arith)
          ∙ sym (drop_all b m (omega arith))
      | inr enough ↦
          let some : min (length m) b ≡ b = omega arith in
          ap (λ n. drop n m) some
    ]

-- With a key the rest is the whole message.
pub rest_after_first_block-keyed : (f : Family) (b : ℕ) → block_bytes f ≡ b
    → (key : Option (List ℕ)) (k m : List ℕ)
    → key ≡ Some k → KeyFits f key → m ≡ drop b (data_bytes f key m)
unfolding key_block
rest_after_first_block-keyed f b e key k m some fits =
    let here : KeyFits f (Some k) = subst (KeyFits f) some fits in
    let first : length (padded (block_bytes f) k) ≡ b =
    length-padded (block_bytes f) k (omega (arith, key_and_output_bytes-fit_byte f)) ∙ e in
    sym (ap (λ (x : Option (List ℕ)). drop b (data_bytes f x m)) some
    ∙ drop_at (padded (block_bytes f) k) m b first)

-- Chunk i of the rest is block i + 1.
pub later_chunk-is_block : (f : Family) (b : ℕ) → block_bytes f ≡ b → (a : Input) (rest : List ℕ)
    → rest ≡ drop b (input_data f a) → (i : ℕ) → i + 2 < step_count f a
    → slice_index_or (first_chunks b (length rest / b) rest) i []
    ≡ slice_index_or (blocks f (input_data f a)) (i + 1) []
later_chunk-is_block f b e = subst
    (λ (b : ℕ). (a : Input) (rest : List ℕ) → rest ≡ drop b (input_data f a) → (i : ℕ)
    → i + 2 < step_count f a
    → slice_index_or (first_chunks b (length rest / b) rest) i []
    ≡ slice_index_or (blocks f (input_data f a)) (i + 1) []) e here
  where
    here : (a : Input) (rest : List ℕ) → rest ≡ drop (block_bytes f) (input_data f a) → (i : ℕ)
        → i + 2 < step_count f a
        → slice_index_or (first_chunks (block_bytes f) (length rest / block_bytes f) rest) i []
        ≡ slice_index_or (blocks f (input_data f a)) (i + 1) []
    here a rest is i lt =
        let b : ℕ = block_bytes f in
        let z : List ℕ = input_data f a in
        let whole : (i + 1 + 1) * b ≤ length z =
        inner_block-is_whole f (length z) (i + 1) (omega arith) in
        let size : length rest ≡ length z - b = ap length is ∙ length-drop b z in
        let place : b + i * b ≡ (i + 1) * b = omega arith in
        let full : length (take b (drop ((i + 1) * b) z)) ≡ b =
        length-take-le b (drop ((i + 1) * b) z) (omega (arith, length-drop ((i + 1) * b) z)) in
        first_chunks-at b (length rest / b) i rest
        (chunk_index-below_count f (length rest) i (omega arith))
        ∙ ap (take b) (ap (drop (i * b)) is ∙ drop-drop (i * b) b z
        ∙ ap (λ (n : ℕ). drop n z) place)
        ∙ sym (cut-at f (step_count f a) z (i + 1) (omega arith)
        ∙ padded-unchanged_at_length b (take b (drop ((i + 1) * b) z)) full)

-- There are chunks for all blocks except the first and the last.
pub later_chunks-cover_blocks : (f : Family) (b : ℕ) → block_bytes f ≡ b
    → (a : Input) (rest : List ℕ)
    → rest ≡ drop b (input_data f a) → step_count f a ≤ length rest / b + 2
later_chunks-cover_blocks f b e =
    subst (λ (b : ℕ). (a : Input) (rest : List ℕ) → rest ≡ drop b (input_data f a)
    → step_count f a ≤ length rest / b + 2) e
    (λ a rest is.
    let z : List ℕ = input_data f a in
    let size : length z - block_bytes f ≡ length rest =
    sym (ap length is ∙ length-drop (block_bytes f) z) in
    subst (λ (m : ℕ). step_count f a ≤ m / block_bytes f + 2) size
    (chunks-cover_inner_blocks f (length z)))
