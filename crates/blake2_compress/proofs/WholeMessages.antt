-- A whole message: its blocks, and its run, also after a key's block.
use Rattle.std.proofs.Common.{◌≡◌, ℕ, suc, ◌+◌, ◌-◌, ◌*◌, ◌/◌, ◌<◌, ◌≤◌, List, [], length}
use Rattle.std.proofs.Common.{take, drop, refl, sym, ap, ◌∙◌, arith, length-drop, length-append}
use Rattle.std.proofs.Common.{Option, Some, None, false, inr}
use Rattle.std.proofs.lemmas.List.{drop_at, length-take-le, take_all, take_at}
use Rattle.std.specs.Prelude.{slice_index_or}
use Rattle.std.specs.Simd.{first_chunks}
use Rattle.blake2_simd.specs.Family.{Family, blake2b, blake2s, block_bytes}
use Rattle.blake2_compress.specs.Hash.{Flags, padded, blocks, block_count, chain, compress}
use Rattle.blake2_compress.specs.Hash.{first_blocks}
use Rattle.blake2_compress.specs.Hash.{bytes_of, data_bytes, digest, final, inner, key_block}
use Rattle.blake2_compress.specs.Hash.{key_size, last_chain, parameters_of, start}
use Rattle.blake2_compress.specs.Inputs.{KeyFits}
use Rattle.blake2_compress.specs.Whole.{whole_input}
use Rattle.blake2_compress.proofs.InputBlocks.{first_block-is_key_block, cut-at}
use Rattle.blake2_compress.proofs.InputBlocks.{length-data_bytes_with_key}
use Rattle.blake2_compress.proofs.LaterBlocks.{chunk_index-below_count, first_chunks-at}
use Rattle.blake2_compress.proofs.Lanes.{chain-no_blocks, last_chain-after_final_block}
use Rattle.blake2_compress.proofs.Padding.{padded-unchanged_at_length}
use Rattle.blake2_compress.proofs.Runs.{inner_block-is_whole}
use Rattle.blake2_compress.proofs.SplitRuns.{block_count-positive, last_chain-after_prefix}

-- ---- the blocks

-- A block before the last is a chunk of the message.
pub inner_block-is_chunk : (f : Family) (z : List ℕ) (i : ℕ) → i + 1 < block_count f (length z)
    → slice_index_or (first_chunks (block_bytes f) (length z / block_bytes f) z) i []
    ≡ slice_index_or (blocks f z) i []
inner_block-is_chunk f z i lt =
    let b : ℕ = block_bytes f in
    let whole : (i + 1) * b ≤ length z = inner_block-is_whole f (length z) i lt in
    let full : length (take b (drop (i * b) z)) ≡ b =
    length-take-le b (drop (i * b) z) (omega (arith, length-drop (i * b) z)) in
    first_chunks-at b (length z / b) i z (chunk_index-below_count f (length z) i whole)
    ∙ sym (cut-at f (block_count f (length z)) z i (omega arith)
    ∙ padded-unchanged_at_length b (take b (drop (i * b) z)) full)

-- What is left for the last block has its size at most.
pub last_block_bytes-fit_block : (f : Family) (m : ℕ)
    → m ≤ (block_count f m - 1) * block_bytes f + block_bytes f
last_block_bytes-fit_block blake2b m = omega arith
last_block_bytes-fit_block blake2s m = omega arith

-- The last block is what is left, with zeros.
pub last_block-is_padded_rest : (f : Family) (z : List ℕ) (n : ℕ) → n ≡ block_count f (length z) - 1
    → padded (block_bytes f) (drop (n * block_bytes f) z) ≡ slice_index_or (blocks f z) n []
last_block-is_padded_rest f z n last =
    let b : ℕ = block_bytes f in
    let fits : length z ≤ n * b + b = rw last (last_block_bytes-fit_block f (length z)) in
    let all : take b (drop (n * b) z) ≡ drop (n * b) z =
    take_all b (drop (n * b) z) (omega (arith, length-drop (n * b) z)) in
    sym (cut-at f (block_count f (length z)) z n
    (omega (arith, last, block_count-positive f (length z)))
    ∙ ap (padded b) all)

-- ---- the run, if c bytes were counted before

-- No block.
pub chain-zero_blocks : (f : Family) (h : List ℕ) (c : ℕ) (d : List (List ℕ)) → h ≡ chain f h c d 0
unfolding chain
chain-zero_blocks f h c d = refl

-- One more block.
pub chain-one_more_block : (f : Family) (h : List ℕ) (c : ℕ) (d : List (List ℕ)) (i t : ℕ)
    (old new block : List ℕ) → old ≡ chain f h c d i
    → new ≡ compress f old block t inner → block ≡ slice_index_or d i []
    → t ≡ c + (i + 1) * block_bytes f → new ≡ chain f h c d (i + 1)
unfolding chain
chain-one_more_block f h c d i t old new block before compressed is_block at =
    let next : suc i ≡ i + 1 = omega arith in
    compressed ∙ (λ k. compress f (before k) (is_block k) (at k) inner) ∙ ap (chain f h c d) next

-- The last block.
pub last_chain-after_last_block : (f : Family) (h : List ℕ) (c : ℕ) (z : List ℕ) (n t : ℕ)
    (old new block : List ℕ) (flags : Flags) → old ≡ chain f h c (blocks f z) n
    → n ≡ block_count f (length z) - 1 → new ≡ compress f old block t flags
    → block ≡ slice_index_or (blocks f z) n [] → t ≡ c + length z
    → new ≡ last_chain f h c z flags
unfolding last_chain
last_chain-after_last_block f h c z n t old new block flags before last compressed is_block at =
    compressed ∙ (λ k. compress f (before k) (is_block k) (at k) flags)
    ∙ ap (λ m. compress f (chain f h c (blocks f z) m) (slice_index_or (blocks f z) m [])
    (c + length z) flags) last

-- ---- the run of a key and a message

key_is_one_block : (f : Family) → 0 ≡ block_count f (block_bytes f + 0) - 1
key_is_one_block blake2b = refl
key_is_one_block blake2s = refl

-- A key and no message.
pub last_chain-key_only : (f : Family) (h k m new : List ℕ) (flags : Flags) → KeyFits f (Some k)
    → length m ≡ 0 → new ≡ compress f h (padded (block_bytes f) k) (block_bytes f) flags
    → new ≡ last_chain f h 0 (data_bytes f (Some k) m) flags
last_chain-key_only f h k m new flags fits none compressed =
    let z : List ℕ = data_bytes f (Some k) m in
    let size : block_bytes f + length m ≡ length z =
    sym (length-data_bytes_with_key f k m fits.1) in
    let bytes : block_bytes f + 0 ≡ length z = ap (λ n. block_bytes f + n) (sym none) ∙ size in
    last_chain-after_final_block f h z 0 (block_bytes f) h new _ flags
    (chain-no_blocks f h (blocks f z) 0 refl)
    (key_is_one_block f ∙ ap (λ n. block_count f n - 1) bytes) compressed
    (first_block-is_key_block f (Some k) k m 0 refl fits refl (block_count-positive f (length z)))
    (omega (arith, bytes))

-- A key's block, and then a message.
pub last_chain-key_then_message : (f : Family) (h first k m new : List ℕ) (flags : Flags)
    → KeyFits f (Some k)
    → 0 < length m → first ≡ compress f h (padded (block_bytes f) k) (block_bytes f) inner
    → new ≡ last_chain f first (block_bytes f) m flags
    → new ≡ last_chain f h 0 (data_bytes f (Some k) m) flags
unfolding key_block chain first_blocks
last_chain-key_then_message f h first k m new flags fits some compressed run =
    let b : ℕ = block_bytes f in
    let z : List ℕ = data_bytes f (Some k) m in
    let size : length z ≡ b + length m = length-data_bytes_with_key f k m fits.1 in
    let one : 1 * b ≡ b = omega arith in
    let key : length (padded b k) ≡ b =
    omega (arith, size, length-append (padded b k) m) in
    let rest : drop (1 * b) z ≡ m = ap (λ (n : ℕ). drop n z) one ∙ drop_at (padded b k) m b key in
    let block : padded b (take b z) ≡ padded b k =
    ap (padded b) (take_at (padded b k) m b key) ∙ padded-unchanged_at_length b (padded b k) key in
    let counted : 0 + (0 + 1) * b ≡ b = omega arith in
    let begun : first ≡ chain f h 0 (first_blocks f 1 z) 1 =
    compressed ∙ (λ i. compress f h (sym block i) (sym counted i) inner) in
    let from : b ≡ 0 + 1 * b = omega arith in
    run ∙ (λ i. last_chain f (begun i) (from i) (sym rest i) flags)
    ∙ sym (last_chain-after_prefix f flags h 0 1 z (omega (arith, size, one))
    (inr (omega (arith, ap length rest))))

-- ---- the digest

-- Without a key the data is the message.
pub data_bytes-without_key : (f : Family) (key : Option (List ℕ)) (m : List ℕ) → key ≡ None
    → m ≡ data_bytes f key m
unfolding key_block
data_bytes-without_key f key m none = sym (ap (λ k. data_bytes f k m) none)

-- The digest is in the bytes of the last chaining words.
pub digest-from_last_chain : (f : Family) (size : ℕ) (key : Option (List ℕ))
    (m begun last bytes : List ℕ)
    → bytes ≡ bytes_of f last → begun ≡ start f (parameters_of size (key_size key) [] [])
    → last ≡ last_chain f begun 0 (data_bytes f key m) (final false)
    → take size bytes ≡ digest f size (whole_input key m)
unfolding digest
digest-from_last_chain f size key m begun last bytes made from run =
    ap (take size) (made ∙ ap (bytes_of f) (run
    ∙ ap (λ h. last_chain f h 0 (data_bytes f key m) (final false)) from))
