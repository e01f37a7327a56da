-- Messages in pieces of one length, the last of which may be shorter, as a tree cuts a message into
-- its leaves (the BLAKE2 document, 2.10).
use Rattle.std.specs.Prelude.{◌≡◌, ◌≢◌, ℕ, ◌*◌, ◌<◌, List, [], length, map, take, drop}
use Rattle.std.specs.Prelude.{slice_index_or}
use Rattle.std.specs.List.{range_with_len}
use Rattle.blake2_simd.specs.Blocks.{chunk_count}

-- The number of pieces in n bytes: ceil(n / size), and at least one.
abbrev pub piece_count : ℕ → ℕ → ℕ
piece_count = chunk_count

-- Piece i: bytes i·size to (i+1)·size of the message, or up to its end.
abbrev pub piece : ℕ → List ℕ → ℕ → List ℕ
piece size text i = take size (drop (i * size) text)

-- All pieces of a message, in order.
abbrev pub pieces : ℕ → List ℕ → List (List ℕ)
pieces size text = map (piece size text) (range_with_len 0 (piece_count size (length text)))

-- The law that the pieces of a message determine it.
abbrev pub PiecesDetermineMessage : Type 0
PiecesDetermineMessage =
    (size : ℕ) (x y : List ℕ) → 0 < size → pieces size x ≡ pieces size y → x ≡ y

-- The law that two lists of pieces are equal if they have the same length and do not differ at any
-- index.
abbrev pub EqualIfNoPairDiffers : Type 0
EqualIfNoPairDiffers = (xs ys : List (List ℕ)) → length xs ≡ length ys
    → ((i : ℕ) → i < length xs → slice_index_or xs i [] ≡ slice_index_or ys i []) → xs ≡ ys

-- Index i is the first at which the pieces of two messages differ.
pub record IsFirstDifference (size : ℕ) (x y : List ℕ) (i : ℕ) : Type 0 where
  pub within : i < piece_count size (length x)
  pub before : (j : ℕ) → j < i → piece size x j ≡ piece size y j
  pub differ : piece size x i ≢ piece size y i
