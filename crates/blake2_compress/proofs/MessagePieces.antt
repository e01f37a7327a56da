-- The pieces of one length into which a message is cut determine it.
use Rattle.std.proofs.Common.{◌≡◌, ℕ, zero, suc, ◌+◌, ◌-◌, ◌*◌, ◌/◌, ◌<◌, ◌≤◌, max, List, [], ◌++◌}
use Rattle.std.proofs.Common.{length, take, drop, slice_index_or, refl, sym, ap, ◌∙◌, arith}
use Rattle.std.proofs.Common.{length-drop, drop-drop}
use Rattle.std.proofs.lemmas.List.{nil_from_length, take-append-drop, ext_get_or}
use Rattle.std.proofs.lemmas.List.FromFn.{length-map-range_with_len, get_or-map-range_with_len}
use Rattle.std.proofs.Math.Nat.{lt-div-mul-add, mul-le-mul_right}
use Rattle.blake2_compress.specs.MessagePieces.{piece_count, piece, pieces, PiecesDetermineMessage}
use Rattle.blake2_compress.specs.MessagePieces.{EqualIfNoPairDiffers}

-- Piece 0 is the beginning.
pub piece-zero : (size : ℕ) (text : List ℕ) → piece size text 0 ≡ take size text
piece-zero size text = let start : 0 * size ≡ 0 = omega arith in rw start refl

-- Piece i + 1 is piece i of what follows the beginning.
pub piece-next : (size : ℕ) (text : List ℕ) (i : ℕ)
    → piece size text (i + 1) ≡ piece size (drop size text) i
piece-next size text i =
    let start : (i + 1) * size ≡ size + i * size = omega arith in
    rw (start, ← drop-drop (i * size) size text) refl

-- Two messages within `count` pieces are equal if no two pieces differ.
texts-equal_within_pieces : (size count : ℕ) (x y : List ℕ) → length x ≤ count * size
    → length y ≤ count * size
    → ((i : ℕ) → i < count → piece size x i ≡ piece size y i) → x ≡ y
texts-equal_within_pieces size zero x y short_x short_y same =
    nil_from_length x (omega arith) ∙ sym (nil_from_length y (omega arith))
texts-equal_within_pieces size (suc count) x y short_x short_y same =
    let first : take size x ≡ take size y = sym (piece-zero size x) ∙ same 0 (omega arith)
    ∙ piece-zero size y in
    let rest : drop size x ≡ drop size y =
    texts-equal_within_pieces size count (drop size x) (drop size y)
    (omega (arith, length-drop size x))
    (omega (arith, length-drop size y))
    (λ i below. sym (piece-next size x i) ∙ same (i + 1) (omega arith) ∙ piece-next size y i) in
    sym (take-append-drop size x) ∙ (λ i. first i ++ rest i) ∙ take-append-drop size y

-- A message does not have more bytes than its pieces.
pub piece_count-covers : (size n : ℕ) → 0 < size → n ≤ piece_count size n * size
piece_count-covers size n some =
    let q : ℕ = (n + (size - 1)) / size in
    let above : n + (size - 1) < q * size + size =
    lt-div-mul-add {a = n + (size - 1)} {b = size} some in
    omega (arith, above, mul-le-mul_right {m = q} {n = max 1 q} size (omega arith))

-- Messages with the same number of pieces are equal if no two pieces differ.
texts-equal_by_pieces : (size : ℕ) (x y : List ℕ) → 0 < size
    → piece_count size (length x) ≡ piece_count size (length y)
    → ((i : ℕ) → i < piece_count size (length x) → piece size x i ≡ piece size y i) → x ≡ y
texts-equal_by_pieces size x y some number same =
    let count_y : length y ≤ piece_count size (length x) * size =
    omega (arith, piece_count-covers size (length y) some, ap (λ (c : ℕ). c * size) number) in
    texts-equal_within_pieces size (piece_count size (length x)) x y
    (piece_count-covers size (length x) some) count_y same

-- ---- the list of the pieces

-- The number of pieces.
pub length-pieces : (size : ℕ) (text : List ℕ)
    → length (pieces size text) ≡ piece_count size (length text)
length-pieces size text =
    length-map-range_with_len (piece size text) 0 (piece_count size (length text))

-- Piece i is at index i.
pub pieces-at : (size : ℕ) (text : List ℕ) (i : ℕ) → i < piece_count size (length text)
    → slice_index_or (pieces size text) i [] ≡ piece size text i
pieces-at size text i below =
    get_or-map-range_with_len (piece size text) 0 (piece_count size (length text)) i i [] below
    (omega arith)

-- The two laws.
pub PiecesDetermineMessage-holds : PiecesDetermineMessage
PiecesDetermineMessage-holds size x y some same =
    let number : piece_count size (length x) ≡ piece_count size (length y) =
    sym (length-pieces size x) ∙ ap length same ∙ length-pieces size y in
    texts-equal_by_pieces size x y some number
    (λ i below.
    sym (pieces-at size x i below)
    ∙ ap (λ (ps : List (List ℕ)). slice_index_or ps i []) same
    ∙ pieces-at size y i (omega (arith, number)))

pub EqualIfNoPairDiffers-holds : EqualIfNoPairDiffers
EqualIfNoPairDiffers-holds xs ys number same = ext_get_or [] xs ys number same
