-- The bytes that an update moves from the pending bytes to the chaining words change no digest.
use Rattle.std.proofs.Common.{◌≡◌, ℕ, zero, suc, ◌+◌, ◌-◌, ◌*◌, ◌<◌, ◌≤◌, ◌⊎◌, inl, inr, List, ◌++◌}
use Rattle.std.proofs.Common.{length, take, drop, refl, sym, ap, arith, append-nil, length-append}
use Rattle.std.proofs.Common.{length-drop}
use Rattle.std.proofs.lemmas.List.{length-take-le, drop-append-le}
use Rattle.std.proofs.lemmas.Bool.{cases_lt}
use Rattle.std.specs.Simd.{first_chunks}
use Rattle.blake2_simd.specs.Family.{Family, blake2b, blake2s, block_bytes}
use Rattle.blake2_compress.specs.Hash.{Flags, padded, bytes_of, first_blocks, chain, block_count}
use Rattle.blake2_compress.proofs.SplitRuns.{cut-prefix, last_chain-after_prefix}
use Rattle.blake2_digest.specs.Blocks.{compressed_blocks, pending_bytes}
use Rattle.blake2_digest.proofs.Cutting.{length-compressed_blocks}
use Rattle.blake2.specs.Cores.{CoreState, absorbed}
use Rattle.blake2.specs.States.{tail}

-- The number of blocks of y that are passed on.
abbrev pub compressed_count : Family → List ℕ → ℕ
compressed_count f y = block_count f (length y) - 1

-- The chunks that a list fills are its blocks.
first_chunks-cut : (f : Family) (k : ℕ) (y : List ℕ) → k * block_bytes f ≤ length y
    → first_chunks (block_bytes f) k y ≡ first_blocks f k y
unfolding first_blocks padded
first_chunks-cut f zero y h = refl
first_chunks-cut f (suc k) y h =
    let b : ℕ = block_bytes f in
    let len : length (take b y) ≡ b = length-take-le b y (omega arith) in
    let full : b - length (take b y) ≡ 0 = omega arith in
    let rest : first_chunks b k (drop b y) ≡ first_blocks f k (drop b y) =
    first_chunks-cut f k (drop b y) (omega (arith, length-drop b y)) in
    rw (full, append-nil (take b y), rest) refl

-- The blocks that are passed on are within y.
compressed_blocks-within_length : (f : Family) (y : List ℕ)
    → compressed_count f y * block_bytes f ≤ length y
compressed_blocks-within_length blake2b y = omega arith
compressed_blocks-within_length blake2s y = omega arith

-- The blocks that are passed on are the first of those that the list is cut into.
compressed_blocks-are_first_blocks : (f : Family) (y : List ℕ)
    → compressed_blocks (block_bytes f) y ≡ first_blocks f (compressed_count f y) y
unfolding compressed_blocks
compressed_blocks-are_first_blocks f y =
    first_chunks-cut f (compressed_count f y) y (compressed_blocks-within_length f y)

-- If something is passed on, something is held back.
compressed_bytes-below_length : (f : Family) (y : List ℕ) → 0 < compressed_count f y
    → compressed_count f y * block_bytes f < length y
compressed_bytes-below_length blake2b y h = omega arith
compressed_bytes-below_length blake2s y h = omega arith

pending_nonempty-if_compressed : (f : Family) (y : List ℕ) → (compressed_count f y ≡ 0) ⊎
    (0 < length (pending_bytes (block_bytes f) y))
unfolding pending_bytes
pending_nonempty-if_compressed f y = elim (cases_lt 0 (compressed_count f y)) [
  | inr none ↦ inl (omega arith)
  | inl some ↦
      inr (omega (
        arith,
        length-drop (compressed_count f y * block_bytes f) y,
        compressed_bytes-below_length f y some,
      ))
]

-- With the first k blocks of y compressed and the rest pending, the tail is as before.
tail-after_first_blocks : (f : Family) (flags : Flags) (h : List ℕ) (c k : ℕ) (y z : List ℕ)
    → k * block_bytes f ≤ length y
    → (k ≡ 0) ⊎ (0 < length (drop (k * block_bytes f) y))
    → tail f (chain f h c (first_blocks f k y) k) (c + k * block_bytes f)
    (drop (k * block_bytes f) y ++ z) flags ≡ tail f h c (y ++ z) flags
tail-after_first_blocks f flags h c k y z whole some =
    let rest : drop (k * block_bytes f) (y ++ z) ≡ drop (k * block_bytes f) y ++ z =
    drop-append-le (k * block_bytes f) y z whole in
    let same : first_blocks f k (y ++ z) ≡ first_blocks f k y = cut-prefix f k y z whole in
    let more : (k ≡ 0) ⊎ (0 < length (drop (k * block_bytes f) (y ++ z))) = elim some [
      | inl e ↦ inl e
      | inr h ↦ inr (omega (arith, ap length rest, length-append (drop (k * block_bytes f) y) z))
    ] in
    let from =
    last_chain-after_prefix f flags h c k (y ++ z) (omega (arith, length-append y z)) more in
    sym (ap (bytes_of f) (rw (same, rest) at from))

-- With the blocks that the buffer passes on compressed and the rest pending, the tail is as before.
pub tail-after_compressed_blocks : (f : Family) (flags : Flags) (core : CoreState) (y z : List ℕ)
    → tail f (absorbed f core (compressed_blocks (block_bytes f) y)).h
    (absorbed f core (compressed_blocks (block_bytes f) y)).count (pending_bytes (block_bytes f) y ++ z) flags
    ≡ tail f core.h core.count (y ++ z) flags
unfolding absorbed pending_bytes
tail-after_compressed_blocks f flags core y z =
    let k : ℕ = compressed_count f y in
    let number : length (compressed_blocks (block_bytes f) y) ≡ k = length-compressed_blocks (block_bytes f) y in
    let order : block_bytes f * k ≡ k * block_bytes f = omega arith in
    let cut_off =
    tail-after_first_blocks f flags core.h core.count k y z (compressed_blocks-within_length f y)
    (unfold pending_bytes in pending_nonempty-if_compressed f y) in
    rw (number, compressed_blocks-are_first_blocks f y, order) cut_off
