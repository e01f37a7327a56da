-- The leaves of a hash that absorbs a message: what they have compressed, and the bytes that are
-- not dealt out yet.
use Rattle.std.specs.Prelude.{◌≡◌, ℕ, zero, suc, ◌+◌, ◌*◌, ◌<◌, nat_eq, true, if◌then◌else◌, List}
use Rattle.std.specs.Prelude.{◌++◌, length, take, nat_lt}
use Rattle.std.specs.List.{flat_map, range_with_len}
use Rattle.blake2_simd.specs.Family.{Family, block_bytes}
use Rattle.blake2_compress.specs.Hash.{Flags, compress, final, inner}
use Rattle.blake2_compress.specs.MessagePieces.{piece}
use Rattle.blake2_parallel.specs.Parallel.{leaf_message, leaves, node_output_from}

-- The chaining words of leaf j, the number of bytes that each leaf has counted, and the bytes that
-- are pending.
pub record Leaves : Type 0 where
  pub words : ℕ → List ℕ
  pub count : ℕ
  pub pending : List ℕ

-- The output of leaf j after the leaves absorb y too.
unfoldable pub leaf_future : Family → Leaves → List ℕ → ℕ → List ℕ
leaf_future f s y j =
    node_output_from f (s.words j) s.count (leaf_message f (s.pending ++ y) j)
    (nat_eq (j + 1) (leaves f))

-- The number of bytes that the leaves have absorbed, those of the key's blocks among them.
abbrev pub total : Family → Leaves → ℕ
total f s = leaves f * s.count + length s.pending

-- The new leaves are the old ones after they absorb x.
pub record HasAbsorbed (f : Family) (old : Leaves) (x : List ℕ) (new : Leaves) : Type 0 where
  pub future : (y : List ℕ) (j : ℕ) → j < leaves f
      → leaf_future f new y j ≡ leaf_future f old (x ++ y) j
  pub total : total f new ≡ total f old + length x

-- The new leaves and the rest are the old ones and the input, after some bytes of the input went
-- into the leaves.
pub record HasAbsorbedPrefix (f : Family) (old : Leaves) (input : List ℕ) (new : Leaves)
    (rest : List ℕ)
    : Type 0 where
  pub future : (y : List ℕ) (j : ℕ) → j < leaves f
      → leaf_future f new (rest ++ y) j ≡ leaf_future f old (input ++ y) j
  pub total : total f new + length rest ≡ total f old + length input

-- The joined outputs of all leaves after they absorb y too.
abbrev pub leaf_outputs_after : Family → Leaves → List ℕ → List ℕ
leaf_outputs_after f s y = flat_map (leaf_future f s y) (range_with_len 0 (leaves f))

-- The digest of n bytes over the outputs of the leaves, from these words of the root.
abbrev pub root_digest_after : Family → ℕ → List ℕ → Leaves → List ℕ → List ℕ
root_digest_after f n root s y = take n (node_output_from f root 0 (leaf_outputs_after f s y) true)

-- ---- steps of a leaf

-- h of leaf j after its blocks of the first n stripes of z, none of them final, if c bytes were
-- counted before.
unfoldable pub leaf_chain : Family → List ℕ → ℕ → List ℕ → ℕ → ℕ → List ℕ
leaf_chain f h c z j zero = h
leaf_chain f h c z j (suc i) =
    compress f (leaf_chain f h c z j i) (piece (block_bytes f) z (i * leaves f + j))
    (c + (i + 1) * block_bytes f) inner

-- The flags of leaf j's block of the last stripe but one, if the last has n bytes: those of a last
-- block, unless the leaf has a byte of the last stripe.
abbrev pub last_but_one_stripe_flags : Family → ℕ → ℕ → Flags
last_but_one_stripe_flags f n j =
    if nat_lt (j * block_bytes f) n then inner else final (nat_eq (j + 1) (leaves f))
