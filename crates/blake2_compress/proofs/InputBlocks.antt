-- The blocks of an input, each from its key or its message.
use Rattle.std.proofs.Common.{◌≡◌, ℕ, zero, suc, ◌+◌, ◌-◌, ◌*◌, ◌<◌, ◌≤◌, List, [], ◌++◌, length}
use Rattle.std.proofs.Common.{take, drop, refl, sym, ap, subst, ◌∙◌, arith, length-append, Option}
use Rattle.std.proofs.Common.{Some, None}
use Rattle.std.proofs.lemmas.List.{take_at, drop_at, drop-drop}
use Rattle.std.specs.Prelude.{slice_index_or}
use Rattle.blake2_simd.specs.Family.{Family, blake2b, blake2s, block_bytes, key_bytes}
use Rattle.blake2_compress.specs.Hash.{padded, first_blocks, blocks, block_count, data_bytes}
use Rattle.blake2_compress.specs.Hash.{key_block}
use Rattle.blake2_compress.specs.Inputs.{KeyFits}
use Rattle.blake2_compress.proofs.ParameterSizes.{key_and_output_bytes-fit_byte}
use Rattle.blake2_compress.proofs.ByteSizes.{length-padded}
use Rattle.blake2_compress.proofs.Padding.{padded-unchanged_at_length}

-- Block i of the first n is the bytes from offset i * bb on.
pub cut-at : (f : Family) (n : ℕ) (z : List ℕ) (i : ℕ) → i < n
    → slice_index_or (first_blocks f n z) i [] ≡ padded (block_bytes f)
    (take (block_bytes f) (drop (i * block_bytes f) z))
unfolding first_blocks
cut-at f zero z i h = absurd (omega arith)
cut-at f (suc n) z zero h =
    let none : 0 * block_bytes f ≡ 0 = omega arith in
    rw none refl
cut-at f (suc n) z (suc i) h =
    let b : ℕ = block_bytes f in
    let more : suc i * b ≡ b + i * b = omega arith in
    cut-at f n (drop b z) i (omega arith) ∙ ap (λ (l : List ℕ). padded b (take b l))
    (drop-drop (i * b) b z ∙ ap (λ (k : ℕ). drop k z) (sym more))

-- Each block begins within the data.
pub block_offset-within_data : (f : Family) (m i : ℕ) → i < block_count f m → i * block_bytes f ≤ m
block_offset-within_data blake2b m i h = omega arith
block_offset-within_data blake2s m i h = omega arith

-- The block of a key has bb bytes.
length-padded_key : (f : Family) (k : List ℕ) → KeyFits f (Some k)
    → length (padded (block_bytes f) k) ≡ block_bytes f
length-padded_key f k fits =
    length-padded (block_bytes f) k (omega (arith, key_and_output_bytes-fit_byte f))

-- The counted length with a key that fits.
pub length-data_bytes_with_key : (f : Family) (k m : List ℕ) → length k ≤ key_bytes f
    → length (data_bytes f (Some k) m) ≡ block_bytes f + length m
unfolding key_block
length-data_bytes_with_key f k m fits =
    let whole : length (padded (block_bytes f) k) ≡ block_bytes f =
    length-padded (block_bytes f) k (omega (arith, key_and_output_bytes-fit_byte f)) in
    length-append (padded (block_bytes f) k) m ∙ ap (λ (n : ℕ). n + length m) whole

-- The counted length without a key.
pub counted_without_key : (f : Family) (key : Option (List ℕ)) (m : List ℕ) → key ≡ None
    → length m ≡ length (data_bytes f key m)
unfolding key_block
counted_without_key f key m e = ap (λ (k : Option (List ℕ)). length (data_bytes f k m)) (sym e)

-- The counted length with a key.
pub counted_with_key : (f : Family) (key : Option (List ℕ)) (k m : List ℕ) → key ≡ Some k
    → KeyFits f key → block_bytes f + length m ≡ length (data_bytes f key m)
unfolding key_block
counted_with_key f key k m e fits =
    let here : KeyFits f (Some k) = subst (KeyFits f) e fits in
    sym (ap (λ (x : Option (List ℕ)). length (data_bytes f x m)) e
    ∙ length-append (padded (block_bytes f) k) m ∙ ap (λ (n : ℕ). n + length m)
    (length-padded_key f k here))

-- Block i without a key.
pub block_without_key : (f : Family) (key : Option (List ℕ)) (m : List ℕ) (i : ℕ) → key ≡ None
    → i < block_count f (length (data_bytes f key m))
    → padded (block_bytes f) (take (block_bytes f) (drop (i * block_bytes f) m))
    ≡ slice_index_or (blocks f (data_bytes f key m)) i []
unfolding key_block
block_without_key f key m i e h =
    let z : data_bytes f key m ≡ m = ap (λ (k : Option (List ℕ)). data_bytes f k m) e in
    sym (cut-at f _ (data_bytes f key m) i h ∙ ap
    (λ (l : List ℕ). padded (block_bytes f) (take (block_bytes f)
    (drop (i * block_bytes f) l))) z)

-- The first block with a key is the key's.
pub first_block-is_key_block : (f : Family) (key : Option (List ℕ)) (k m : List ℕ) (i : ℕ)
    → key ≡ Some k
    → KeyFits f key → i ≡ 0 → i < block_count f (length (data_bytes f key m))
    → padded (block_bytes f) k ≡ slice_index_or (blocks f (data_bytes f key m)) i []
unfolding key_block
first_block-is_key_block f key k m i e fits at h =
    let b : ℕ = block_bytes f in
    let here : KeyFits f (Some k) = subst (KeyFits f) e fits in
    let lk : length (padded b k) ≡ b = length-padded_key f k here in
    let z : data_bytes f key m ≡ padded b k ++ m =
    ap (λ (x : Option (List ℕ)). data_bytes f x m) e in
    let none : i * b ≡ 0 = rw at (omega arith) in
    sym (cut-at f _ (data_bytes f key m) i h ∙ ap
    (λ (l : List ℕ). padded b (take b (drop (i * b) l))) z
    ∙ ap (λ (n : ℕ). padded b (take b (drop n (padded b k ++ m)))) none
    ∙ ap (padded b) (take_at (padded b k) m b lk) ∙ padded-unchanged_at_length b (padded b k) lk)

-- An offset after the first block, in bytes.
later_block_offset : (f : Family) (i : ℕ) → 0 < i
    → i * block_bytes f ≡ block_bytes f + (i - 1) * block_bytes f
later_block_offset f i some =
    let one : i ≡ suc (i - 1) = omega arith in
    let more : suc (i - 1) * block_bytes f ≡ block_bytes f + (i - 1) * block_bytes f =
    omega arith in
    ap (λ (n : ℕ). n * block_bytes f) one ∙ more

-- The later blocks with a key are the message's.
pub later_block-is_message_block : (f : Family) (key : Option (List ℕ)) (k m : List ℕ) (i : ℕ)
    → key ≡ Some k
    → KeyFits f key → 0 < i → i < block_count f (length (data_bytes f key m))
    → padded (block_bytes f) (take (block_bytes f) (drop ((i - 1) * block_bytes f) m))
    ≡ slice_index_or (blocks f (data_bytes f key m)) i []
unfolding key_block
later_block-is_message_block f key k m i e fits some h =
    let b : ℕ = block_bytes f in
    let here : KeyFits f (Some k) = subst (KeyFits f) e fits in
    let lk : length (padded b k) ≡ b = length-padded_key f k here in
    let z : data_bytes f key m ≡ padded b k ++ m =
    ap (λ (x : Option (List ℕ)). data_bytes f x m) e in
    sym (cut-at f _ (data_bytes f key m) i h ∙ ap
    (λ (l : List ℕ). padded b (take b (drop (i * b) l))) z
    ∙ ap (λ (n : ℕ). padded b (take b (drop n (padded b k ++ m)))) (later_block_offset f i some)
    ∙ ap (λ (l : List ℕ). padded b (take b l)) (sym (drop-drop ((i - 1) * b) b (padded b k ++ m))
    ∙ ap (drop ((i - 1) * b)) (drop_at (padded b k) m b lk)))

-- Each of these blocks begins within the message.
pub later_block_offset-within_message : (f : Family) (key : Option (List ℕ)) (k m : List ℕ) (i : ℕ)
    → key ≡ Some k
    → KeyFits f key → 0 < i → i < block_count f (length (data_bytes f key m))
    → (i - 1) * block_bytes f ≤ length m
later_block_offset-within_message f key k m i e fits some h =
    let all : block_bytes f + length m ≡ length (data_bytes f key m) =
    counted_with_key f key k m e fits in
    let within : i * block_bytes f ≤ length (data_bytes f key m) =
    block_offset-within_data f (length (data_bytes f key m)) i h in
    omega (arith, later_block_offset f i some)
